-- The offsets of a tree's tokens.
-- Beside the promise.
use Rattle.std.specs.Prelude.{ℕ, List, length}
use Rattle.std.specs.List.{filter_map}
use Rattle.fcl_tokens.specs.Offsets.{AscendWithin, offset_of}
use Rattle.fcl_syntax.specs.{Grammar.TBlock, Grammar.block_text, Annotations.Sym, Text.SpellsTree}

-- in the order of the tokens
abbrev pub offsets : List Sym → List ℕ
offsets symbols = filter_map (λ (s : Sym). offset_of s.token) symbols

-- The offsets in a tree that a text spells ascend within the text.
abbrev pub OffsetsAscend : Type 0
OffsetsAscend = (text : List ℕ) (t : TBlock) → SpellsTree text t → AscendWithin 0 (length text) (offsets (block_text t))
