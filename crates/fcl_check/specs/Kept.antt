-- A loaded number is the token's number: the scale changes none of a text.
-- Beside the promise.
use Rattle.std.specs.Prelude.{◌≡◌, List, ℕ, All, neg_ℤ}
use Rattle.fcl_tokens.specs.declared.token.Token.{Token}
use Rattle.fcl_tokens.specs.declared.token.Token.TheVariants as tok
use Rattle.fcl_syntax.specs.{Annotations.tokens_of, Grammar.TBlock, Grammar.block_text, Text.SpellsTree}
use Rattle.fcl_check.specs.Sections.{magnitude, to_scale}

-- a number is as it is written, without a sign and behind a minus
abbrev pub IsKept : Token → Type 0
IsKept (tok.Number at n whole) =
    (to_scale (magnitude n) ≡ magnitude n) × (to_scale (neg_ℤ (magnitude n)) ≡ neg_ℤ (magnitude n))
IsKept _ = Unit {0}

-- Each number of a tree that a text spells is.
abbrev pub NumbersAreKept : Type 0
NumbersAreKept = (text : List ℕ) (t : TBlock) → SpellsTree text t → All IsKept (tokens_of (block_text t))
