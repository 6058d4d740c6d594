-- The tokens of a text. It is cut from the left into blanks, comments and tokens, each the longest that stands there.
-- Reached by the promise.
use Rattle.std.specs.Prelude.{◌≡◌, ℕ, ◌+◌, ◌<◌, ◌≤◌, Bool, true, false, List, [], ◌∷◌, ◌++◌, length, codes, Option}
use Rattle.std.specs.Prelude.{Some, None, Ok, Err, ◌==◌, ◌||◌, ◌⊎◌, if◌then◌else◌, pos}
use Rattle.std.specs.List.{list_all, filter_map}
use Rattle.std.specs.Char.{is_ascii_digit, is_ascii_alphabetic}
use Rattle.std.specs.Ordering.{int_eq}
use Rattle.std.specs.Str.{str_eq_ignore_ascii_case}
use Rattle.fz_num.specs.Decimals.{decimal}
use Rattle.fz_num.specs.declared.{dec.Dec.Dec, dec.DecFault.DecFault, dec.DecFault.TheVariants.Shape}
use Rattle.fcl_tokens.specs.declared.lexer.LexKind.{LexKind}
use Rattle.fcl_tokens.specs.declared.lexer.LexKind.TheVariants as kinds
use Rattle.fcl_tokens.specs.declared.token.Amount.{Amount}
use Rattle.fcl_tokens.specs.declared.token.Amount.TheVariants as amount
use Rattle.fcl_tokens.specs.declared.token.Meaning.{Meaning}
use Rattle.fcl_tokens.specs.declared.token.Meaning.TheVariants as meaning
use Rattle.fcl_tokens.specs.declared.token.Token.{Token}
use Rattle.fcl_tokens.specs.declared.token.Token.TheVariants as tok
use Rattle.fcl_tokens.specs.declared.token.Word.TheVariants as word
use Rattle.fcl_tokens.specs.Meanings.{meanings}

-- ---- bytes

-- space, tab, CR and LF
abbrev pub is_blank : ℕ → Bool
is_blank b = b == 32 || b == 9 || b == 13 || b == 10

-- a letter or `_`
abbrev pub is_name_start : ℕ → Bool
is_name_start b = is_ascii_alphabetic b || b == 95

abbrev pub is_name_byte : ℕ → Bool
is_name_byte b = is_name_start b || is_ascii_digit b

-- any but LF
abbrev pub is_line_byte : ℕ → Bool
is_line_byte b = if b == 10 then false else true

abbrev pub starts_name : List ℕ → Bool
starts_name [] = false
starts_name (b ∷ bytes) = is_name_start b

-- ---- blanks and comments

abbrev pub IsBlank : List ℕ → Type 0
IsBlank bytes = (b : ℕ) × (bytes ≡ b ∷ []) × (is_blank b ≡ true)

-- `(*` up to the next `*)`
pub record IsComment (bytes : List ℕ) : Type 0 where
  pub inside : List ℕ
  pub parts : bytes ≡ codes "(*" ++ (inside ++ codes "*)")
  pub next : (before after : List ℕ) → inside ++ codes "*)" ≡ before ++ (codes "*)" ++ after)
      → length inside ≤ length before

-- `//` and bytes of the same line
pub record IsLineComment (bytes : List ℕ) : Type 0 where
  pub inside : List ℕ
  pub parts : bytes ≡ codes "//" ++ inside
  pub line : list_all is_line_byte inside ≡ true

-- ---- tokens

-- a letter or `_`, and then letters, digits and `_`
abbrev pub IsName : List ℕ → Type 0
IsName bytes = (starts_name bytes ≡ true) × (list_all is_name_byte bytes ≡ true)

abbrev pub IsDigits : List ℕ → Type 0
IsDigits bytes = (0 < length bytes) × (list_all is_ascii_digit bytes ≡ true)

-- digits.digits
pub record IsPointed (bytes : List ℕ) : Type 0 where
  pub units : List ℕ
  pub places : List ℕ
  pub parts : bytes ≡ units ++ (codes "." ++ places)
  pub digits : IsDigits units × IsDigits places

-- what is written as a number, without a point or with one
abbrev pub IsNumber : Bool → List ℕ → Type 0
IsNumber true bytes = IsDigits bytes
IsNumber false bytes = IsPointed bytes

-- 0 and 1 stand apart
abbrev pub amount_of : Dec → Amount
amount_of d = if int_eq d.0 (pos 0) then amount.Zero else (if int_eq d.0 (pos 10000) then amount.One else
    amount.Other d)

-- a keyword, or a name with what it says; case does not count
abbrev pub meaning_in : List (List ℕ × Meaning) → List ℕ → Meaning
meaning_in [] text = meaning.Name word.Other
meaning_in (m ∷ ms) text = if str_eq_ignore_ascii_case m.0 text then m.1 else meaning_in ms text

-- the bytes spell the token, where they stand at this place
abbrev pub IsToken : ℕ → List ℕ → Token → Type 0
IsToken at bytes (tok.Word place k) = (place ≡ at) × IsName bytes × (meaning_in meanings bytes ≡ meaning.Keyword k)
IsToken at bytes (tok.Name place w) = (place ≡ at) × IsName bytes × (meaning_in meanings bytes ≡ meaning.Name w)
IsToken at bytes (tok.Number place n whole) =
    (place ≡ at) × IsNumber whole bytes × ((d : Dec) × (decimal bytes ≡ Ok d) × (n ≡ amount_of d))
IsToken at bytes (tok.Open place) = (place ≡ at) × (bytes ≡ codes "(")
IsToken at bytes tok.Close = bytes ≡ codes ")"
IsToken at bytes tok.Assign = bytes ≡ codes ":="
IsToken at bytes tok.To = bytes ≡ codes ".."
IsToken at bytes tok.Colon = bytes ≡ codes ":"
IsToken at bytes tok.Semicolon = bytes ≡ codes ";"
IsToken at bytes tok.Comma = bytes ≡ codes ","
IsToken at bytes tok.Plus = bytes ≡ codes "+"
IsToken at bytes tok.Minus = bytes ≡ codes "-"

-- ---- what stands at the front of a text

-- bytes that stand together, and the token that they spell; a blank or a comment spells none
pub record Lexeme : Type 0 where
  pub bytes : List ℕ
  pub token : Option Token

abbrev pub IsGap : List ℕ → Type 0
IsGap bytes = IsBlank bytes ⊎ (IsComment bytes ⊎ IsLineComment bytes)

abbrev pub IsSpelling : ℕ → List ℕ → Option Token → Type 0
IsSpelling at bytes None = IsGap bytes
IsSpelling at bytes (Some t) = IsToken at bytes t

-- a blank, a comment, a number, which may be one that is refused, or a token
abbrev pub IsTogether : List ℕ → Type 0
IsTogether bytes =
    IsGap bytes ⊎ (((whole : Bool) × IsNumber whole bytes) ⊎ ((at : ℕ) × (t : Token) × IsToken at bytes t))

-- nothing longer stands together at the front of the text
abbrev pub IsLongest : List ℕ → List ℕ → Type 0
IsLongest front text =
    (longer behind : List ℕ) → text ≡ longer ++ behind → IsTogether longer → length longer ≤ length front

-- what is wrong with a number that these bytes follow: a letter or `_`, or its value
abbrev pub IsRefused : List ℕ → List ℕ → DecFault → Type 0
IsRefused number behind e =
    ((starts_name behind ≡ true) × (e ≡ Shape)) ⊎ ((starts_name behind ≡ false) × (decimal number ≡ Err e))

-- the fault at the front of a text: nothing stands together there, or a comment has no end, or the longest number is
-- refused
abbrev pub IsFaulty : LexKind → List ℕ → Type 0
IsFaulty kinds.BadByte text =
    (0 < length text) × ((front behind : List ℕ) → text ≡ front ++ behind → IsTogether front → ⊥)
IsFaulty kinds.OpenComment text =
    (inside : List ℕ) × (text ≡ codes "(*" ++ inside) ×
    ((before after : List ℕ) → inside ≡ before ++ (codes "*)" ++ after) → ⊥)
IsFaulty (kinds.Number e) text =
    (number behind : List ℕ) × (text ≡ number ++ behind) × ((whole : Bool) × IsNumber whole number) ×
    IsLongest number text × IsRefused number behind e

-- ---- the text

-- the lexeme stands at this place in front of what is behind it, and is the longest there; and nothing is wrong there
pub record IsFront (at : ℕ) (l : Lexeme) (behind : List ℕ) : Type 0 where
  pub spells : IsSpelling at l.bytes l.token
  pub longest : IsLongest l.bytes (l.bytes ++ behind)
  pub faultless : (k : LexKind) → IsFaulty k (l.bytes ++ behind) → ⊥

-- the lexemes stand in the text one behind the other, the first at this place, and leave the rest
abbrev pub IsCut : ℕ → List Lexeme → List ℕ → List ℕ → Type 0
IsCut at [] text rest = text ≡ rest
IsCut at (l ∷ lexemes) text rest =
    (behind : List ℕ) × (text ≡ l.bytes ++ behind) × IsFront at l behind ×
    IsCut (at + length l.bytes) lexemes behind rest

abbrev pub place_before : ℕ → Option Token → List ℕ → List ℕ
place_before at None places = places
place_before at (Some t) places = at ∷ places

-- the places of the lexemes that are tokens
abbrev pub places_of : ℕ → List Lexeme → List ℕ
places_of at [] = []
places_of at (l ∷ lexemes) = place_before at l.token (places_of (at + length l.bytes) lexemes)

-- these are the tokens of the text, each with its place
pub record HasTokens (text : List ℕ) (tokens : List Token) (places : List ℕ) : Type 0 where
  pub lexemes : List Lexeme
  pub cut : IsCut 0 lexemes text []
  pub are : tokens ≡ filter_map (λ (l : Lexeme). l.token) lexemes
  pub stand : places ≡ places_of 0 lexemes

-- this is the first token fault of the text, and it is at this place
pub record HasTokenFault (text : List ℕ) (k : LexKind) (at : ℕ) : Type 0 where
  pub lexemes : List Lexeme
  pub rest : List ℕ
  pub cut : IsCut 0 lexemes text rest
  pub place : at + length rest ≡ length text
  pub fault : IsFaulty k rest
