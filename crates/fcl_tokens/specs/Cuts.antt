-- What the lexer cuts a text into is what the text has.
-- Beside the promise.
use Rattle.std.specs.Prelude.{◌≡◌, ℕ, ◌↔◌, List, Ok, Err}
use Rattle.fcl_tokens.specs.declared.{lexer.LexKind.LexKind, token.Token.Token}
use Rattle.fcl_tokens.specs.{Tokens.HasTokens, Tokens.HasTokenFault, Lexing.tokenization}

-- The lexer gives just the tokens of a text, and its places; and just its first token fault.
pub record CutsAreTokens : Type 0 where
  pub tokens : (text : List ℕ) (tokens : List Token) (places : List ℕ)
      → (tokenization text ≡ Ok (tokens, places)) ↔ HasTokens text tokens places
  pub faults : (text : List ℕ) (k : LexKind) (at : ℕ) → (tokenization text ≡ Err
      (record { kind = k; at = at })) ↔ HasTokenFault text k at
