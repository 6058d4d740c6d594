-- Cutting a text from the left, piece by piece, as the lexer does.
-- Beside the promise.
use Rattle.std.specs.Prelude.{◌≡◌, ℕ, zero, suc, ◌+◌, ◌<◌, ◌≤◌, Bool, false, List, [], ◌∷◌, length, take, drop, Option}
use Rattle.std.specs.Prelude.{Some, None, Result, Ok, Err, ◌==◌, if◌then◌else◌}
use Rattle.std.specs.List.{take_while}
use Rattle.std.specs.Char.{is_ascii_digit}
use Rattle.fz_num.specs.Decimals.{decimal}
use Rattle.fz_num.specs.declared.{dec.Dec.Dec, dec.DecFault.DecFault, dec.DecFault.TheVariants.Shape}
use Rattle.fcl_tokens.specs.declared.lexer.LexError.{LexError}
use Rattle.fcl_tokens.specs.declared.lexer.LexError.TheVariants as errors
use Rattle.fcl_tokens.specs.declared.lexer.LexFault.{LexFault}
use Rattle.fcl_tokens.specs.declared.lexer.LexKind.TheVariants as kinds
use Rattle.fcl_tokens.specs.declared.lexer.Piece.{Piece}
use Rattle.fcl_tokens.specs.declared.lexer.Piece.TheVariants as piece
use Rattle.fcl_tokens.specs.declared.token.Meaning.{Meaning}
use Rattle.fcl_tokens.specs.declared.token.Meaning.TheVariants as meaning
use Rattle.fcl_tokens.specs.declared.token.Token.{Token}
use Rattle.fcl_tokens.specs.declared.token.Token.TheVariants as tok
use Rattle.fcl_tokens.specs.Meanings.{meanings}
use Rattle.fcl_tokens.specs.Tokens.{is_blank, meaning_in, is_name_start, amount_of, starts_name, is_line_byte}
use Rattle.fcl_tokens.specs.Tokens.{is_name_byte}

-- how long a run at the front is
abbrev pub run : (ℕ → Bool) → List ℕ → ℕ
run p bytes = length (take_while p bytes)

-- after how many bytes a comment's end is over
abbrev pub shifted : ℕ → Option ℕ → Option ℕ
shifted n None = None
shifted n (Some m) = Some (n + m)

abbrev pub starts_close : List ℕ → Bool
starts_close [] = false
starts_close (b ∷ bytes) = b == 41

abbrev pub comment_end : List ℕ → Option ℕ
comment_end [] = None
comment_end (a ∷ bytes) =
    if (if a == 42 then starts_close bytes else false) then Some 2 else shifted 1 (comment_end bytes)

abbrev pub comment_piece : Option ℕ → Piece
comment_piece None = piece.Fault kinds.OpenComment
comment_piece (Some n) = piece.Skip (n + 2)

-- whether the front is a point and a digit
abbrev pub has_fraction : List ℕ → Bool
has_fraction (a ∷ b ∷ bytes) = if a == 46 then is_ascii_digit b else false
has_fraction _ = false

-- digits, or digits.digits: how many bytes
unfoldable pub number_len : List ℕ → ℕ
number_len bytes =
    let n = run is_ascii_digit bytes in
    if has_fraction (drop n bytes) then n + 1 + run is_ascii_digit (drop (n + 1) bytes) else n

abbrev pub decimal_piece : ℕ → ℕ → Bool → Result Dec DecFault → Piece
decimal_piece at n whole (Ok d) = piece.Token (tok.Number at (amount_of d) whole) n
decimal_piece at n whole (Err e) = piece.Fault (kinds.Number e)

-- a number, which no letter follows
unfoldable pub number_piece : ℕ → List ℕ → Piece
number_piece at bytes =
    let n = number_len bytes in
    if starts_name (drop n bytes) then piece.Fault (kinds.Number Shape) else
    decimal_piece at n (n == run is_ascii_digit bytes) (decimal (take n bytes))

abbrev pub token_of : ℕ → Meaning → Token
token_of at (meaning.Keyword k) = tok.Word at k
token_of at (meaning.Name w) = tok.Name at w

unfoldable pub word_token : ℕ → List ℕ → Token
word_token at text = token_of at (meaning_in meanings text)

-- `(` or a comment
unfoldable pub open_piece : ℕ → List ℕ → Piece
open_piece at [] = piece.Token (tok.Open at) 1
open_piece at (b ∷ bytes) = if b == 42 then comment_piece (comment_end bytes) else piece.Token (tok.Open at) 1

unfoldable pub slash_piece : List ℕ → Piece
slash_piece [] = piece.Fault kinds.BadByte
slash_piece (b ∷ bytes) = if b == 47 then piece.Skip (2 + run is_line_byte bytes) else piece.Fault kinds.BadByte

unfoldable pub point_piece : List ℕ → Piece
point_piece [] = piece.Fault kinds.BadByte
point_piece (b ∷ bytes) = if b == 46 then piece.Token tok.To 2 else piece.Fault kinds.BadByte

unfoldable pub colon_piece : List ℕ → Piece
colon_piece [] = piece.Token tok.Colon 1
colon_piece (b ∷ bytes) = if b == 61 then piece.Token tok.Assign 2 else piece.Token tok.Colon 1

unfoldable pub delimiter_piece : ℕ → ℕ → List ℕ → Piece
delimiter_piece at b bytes =
    if b == 40 then open_piece at bytes else
    if b == 47 then slash_piece bytes else
    if b == 46 then point_piece bytes else
    if b == 58 then colon_piece bytes else
    if b == 59 then piece.Token tok.Semicolon 1 else
    if b == 44 then piece.Token tok.Comma 1 else
    if b == 41 then piece.Token tok.Close 1 else
    if b == 43 then piece.Token tok.Plus 1 else
    if b == 45 then piece.Token tok.Minus 1 else
    piece.Fault kinds.BadByte

-- the piece at the front of what is left
abbrev pub piece_of : ℕ → List ℕ → Piece
piece_of at [] = piece.Skip 1
piece_of at (b ∷ bytes) =
    if is_blank b then piece.Skip 1 else
    if is_name_start b then (let n = run is_name_byte (b ∷ bytes) in
    piece.Token (word_token at (take n (b ∷ bytes))) n) else
    if is_ascii_digit b then number_piece at (b ∷ bytes) else
    delimiter_piece at b bytes

-- tokens, each with its place
abbrev pub Placed : Type 0
Placed = List Token × List ℕ

abbrev pub Lexed : Type 0
Lexed = Result Placed LexFault

abbrev pub in_front : Token → ℕ → Lexed → Lexed
in_front t at (Ok l) = Ok (t ∷ l.0, at ∷ l.1)
in_front t at (Err e) = Err e

abbrev pub next_piece : ℕ → Piece → (ℕ → Lexed) → Lexed
next_piece at (piece.Skip n) go = go n
next_piece at (piece.Token t n) go = in_front t at (go n)
next_piece at (piece.Fault k) go = Err (record { kind = k; at = at })

-- at most fuel pieces of what is left
unfoldable pub lexed : ℕ → ℕ → List ℕ → Lexed
lexed zero at bytes = Ok ([], [])
lexed (suc fuel) at [] = Ok ([], [])
lexed (suc fuel) at (b ∷ bytes) =
    next_piece at (piece_of at (b ∷ bytes)) (λ n. lexed fuel (at + n) (drop n (b ∷ bytes)))

-- the tokens of a text with their places, or its first token fault
abbrev pub tokenization : List ℕ → Lexed
tokenization bytes = lexed (length bytes) 0 bytes

abbrev pub LexFails : LexError → Lexed → Type 0
LexFails errors.Memory l = Unit {0}
LexFails (errors.Fault e) l = l ≡ Err e

-- a piece is not empty, and lies in what is left
abbrev pub PieceFits : Piece → ℕ → Type 0
PieceFits (piece.Skip n) len = (0 < n) × (n ≤ len)
PieceFits (piece.Token t n) len = (0 < n) × (n ≤ len)
PieceFits (piece.Fault k) len = Unit {0}
