-- The offsets that a text's tokens keep.
-- Beside the promise.
use Rattle.std.specs.Prelude.{ℕ, suc, ◌<◌, ◌≤◌, List, [], ◌∷◌, length, Option, Some, None}
use Rattle.std.specs.List.{filter_map}
use Rattle.fcl_tokens.specs.declared.token.Token.{Token}
use Rattle.fcl_tokens.specs.declared.token.Token.TheVariants as tok
use Rattle.fcl_tokens.specs.Tokens.{HasTokens}

-- where a token stands in the text, where it keeps that
abbrev pub offset_of : Token → Option ℕ
offset_of (tok.Word at k) = Some at
offset_of (tok.Name at w) = Some at
offset_of (tok.Number at n whole) = Some at
offset_of (tok.Open at) = Some at
offset_of _ = None

-- numbers that ascend, from one bound to below another
abbrev pub AscendWithin : ℕ → ℕ → List ℕ → Type 0
AscendWithin low end [] = Unit {0}
AscendWithin low end (n ∷ ns) = (low ≤ n) × ((n < end) × AscendWithin (suc n) end ns)

-- The offsets of a text's tokens ascend within the text.
abbrev pub TokensAscend : Type 0
TokensAscend = (text : List ℕ) (tokens : List Token) (places : List ℕ) → HasTokens text tokens places
    → AscendWithin 0 (length text) (filter_map offset_of tokens)
