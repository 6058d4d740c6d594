-- The size of a tree's numbers.
-- Beside the promise.
use Rattle.std.specs.Prelude.{ℕ, List, All}
use Rattle.fcl_tokens.specs.Scale.{IsTokenInScale}
use Rattle.fcl_syntax.specs.{Grammar.TBlock, Grammar.block_text, Annotations.tokens_of, Text.SpellsTree}

-- No number of a tree that a text spells is beyond 100000.
abbrev pub NumbersInScale : Type 0
NumbersInScale = (text : List ℕ) (t : TBlock) → SpellsTree text t → All IsTokenInScale (tokens_of (block_text t))
