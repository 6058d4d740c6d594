-- The size of the numbers of a text's tokens.
-- Beside the promise.
use Rattle.std.specs.Prelude.{ℕ, List, pos, neg_ℤ, ◌≤ℤ◌, All}
use Rattle.fcl_tokens.specs.declared.token.Amount.{Amount}
use Rattle.fcl_tokens.specs.declared.token.Amount.TheVariants as amount
use Rattle.fcl_tokens.specs.declared.token.Token.{Token}
use Rattle.fcl_tokens.specs.declared.token.Token.TheVariants as tok
use Rattle.fcl_tokens.specs.Tokens.{HasTokens}

-- at most 100000, in 1/10000
abbrev pub IsAmountInScale : Amount → Type 0
IsAmountInScale amount.Zero = Unit {0}
IsAmountInScale amount.One = Unit {0}
IsAmountInScale (amount.Other d) = (neg_ℤ (pos 1000000000) ≤ℤ d.0) × (d.0 ≤ℤ pos 1000000000)

-- a number is; other tokens have none
abbrev pub IsTokenInScale : Token → Type 0
IsTokenInScale (tok.Number at n whole) = IsAmountInScale n
IsTokenInScale _ = Unit {0}

-- No number token of a text is beyond 100000.
abbrev pub TokensInScale : Type 0
TokensInScale = (text : List ℕ) (tokens : List Token) (places : List ℕ) → HasTokens text tokens places
    → All IsTokenInScale tokens
