-- The offsets of a text's tokens ascend, and no number of theirs is beyond 100000.
use Rattle.std.proofs.Common.{◌≡◌, ℕ, zero, suc, ◌+◌, ◌-◌, ◌<◌, ◌≤◌, Bool, true, false, List, [], ◌∷◌, length, take}
use Rattle.std.proofs.Common.{drop, Option, Some, None, Result, Ok, Err, refl, subst, arith, inl, inr, ◌⊎◌, ◌==◌}
use Rattle.std.proofs.Common.{if◌then◌else◌, All}
use Rattle.std.proofs.lemmas.List.Elements.{All-nil, All-cons}
use Rattle.std.specs.Char.{is_ascii_digit}
use Rattle.std.specs.List.{filter_map}
use Rattle.std.proofs.lemmas.List.{length-drop}
use Rattle.fz_num.specs.{declared.dec.Dec.Dec, declared.dec.DecFault.DecFault, Decimals.decimal}
use Rattle.fcl_tokens.specs.{Meanings.meanings, Scale.IsTokenInScale, Scale.TokensInScale}
use Rattle.fcl_tokens.specs.Tokens.{HasTokens, is_blank, is_name_byte, is_name_start, meaning_in, starts_name}
use Rattle.fcl_tokens.specs.Lexing.{Lexed, colon_piece, comment_end, comment_piece, decimal_piece, has_fraction}
use Rattle.fcl_tokens.specs.Lexing.{in_front, lexed, delimiter_piece, next_piece, number_len, number_piece}
use Rattle.fcl_tokens.specs.Lexing.{open_piece, piece_of, point_piece, run, slash_piece, token_of, word_token}
use Rattle.fcl_tokens.specs.Offsets.{AscendWithin, offset_of, TokensAscend}
use Rattle.fcl_tokens.specs.declared.lexer.Piece.{Piece}
use Rattle.fcl_tokens.proofs.Scale.{amount_scale, ResultInScale, decimal_scale}
use Rattle.fcl_tokens.proofs.{Cutting.or_left, Cutting.run_first, CutTexts.tokens_are_cut}
use Rattle.fcl_tokens.specs.declared.lexer.Piece.TheVariants as piece
use Rattle.fcl_tokens.specs.declared.token.Meaning.{Meaning}
use Rattle.fcl_tokens.specs.declared.token.Meaning.TheVariants as meaning
use Rattle.fcl_tokens.specs.declared.token.Token.{Token}

AscendWithin-lower : (low from end : ℕ) (ns : List ℕ) → low ≤ from → AscendWithin from end ns → AscendWithin low end ns
AscendWithin-lower low from end [] h up = tt
AscendWithin-lower low from end (n ∷ ns) h up = (omega (arith, h, up.0), up.1)

-- ---- pieces

-- a piece is not empty, its token keeps this offset or none, and its number is in scale
abbrev IsPieceAt : ℕ → Piece → Type 0
IsPieceAt at (piece.Skip n) = 0 < n
IsPieceAt at (piece.Token t n) = (0 < n) × ((offset_of t ≡ None) ⊎ (offset_of t ≡ Some at)) × IsTokenInScale t
IsPieceAt at (piece.Fault k) = Unit {0}

either : (at : ℕ) (b : Bool) (p q : Piece) → (b ≡ true → IsPieceAt at p) → IsPieceAt at q
    → IsPieceAt at (if b then p else q)
either at true p q h g = h refl
either at false p q h g = g

some_number : (b : ℕ) (bytes : List ℕ) → is_ascii_digit b ≡ true → 0 < number_len (b ∷ bytes)
unfolding number_len
some_number b bytes h =
    go (has_fraction (drop (run is_ascii_digit (b ∷ bytes)) (b ∷ bytes))) (run is_ascii_digit (b ∷ bytes)) _
    (run_first is_ascii_digit b bytes h)
  where
    go : (c : Bool) (n m : ℕ) → 0 < n → 0 < (if c then n + 1 + m else n)
    go true n m k = omega (arith, k)
    go false n m k = k

decimal_at : (at n : ℕ) (whole : Bool) (r : Result Dec DecFault) → 0 < n → ResultInScale r
    → IsPieceAt at (decimal_piece at n whole r)
decimal_at at n whole (Ok d) h g = (h, inr refl, amount_scale d g)
decimal_at at n whole (Err e) h g = tt

number_at : (at b : ℕ) (bytes : List ℕ) → is_ascii_digit b ≡ true → IsPieceAt at (number_piece at (b ∷ bytes))
unfolding number_piece
number_at at b bytes h =
    let n = number_len (b ∷ bytes) in
    either at (starts_name (drop n (b ∷ bytes))) _ _ (λ k. tt)
    (decimal_at at n _ (decimal (take n (b ∷ bytes))) (some_number b bytes h) (decimal_scale (take n (b ∷ bytes))))

word_at : (at n : ℕ) (m : Meaning) → 0 < n → IsPieceAt at (piece.Token (token_of at m) n)
word_at at n (meaning.Keyword k) h = (h, inr refl, tt)
word_at at n (meaning.Name w) h = (h, inr refl, tt)

comment_at : (at : ℕ) (n : Option ℕ) → IsPieceAt at (comment_piece n)
comment_at at None = tt
comment_at at (Some n) = omega arith

one_byte : 0 < 1
one_byte = omega arith

two_bytes : 0 < 2
two_bytes = omega arith

open_at : (at : ℕ) (bytes : List ℕ) → IsPieceAt at (open_piece at bytes)
unfolding open_piece
open_at at [] = (one_byte, inr refl, tt)
open_at at (b ∷ bytes) = either at (b == 42) _ _ (λ k. comment_at at (comment_end bytes)) (one_byte, inr refl, tt)

slash_at : (at : ℕ) (bytes : List ℕ) → IsPieceAt at (slash_piece bytes)
unfolding slash_piece
slash_at at [] = tt
slash_at at (b ∷ bytes) = either at (b == 47) _ _ (λ k. omega arith) tt

point_at : (at : ℕ) (bytes : List ℕ) → IsPieceAt at (point_piece bytes)
unfolding point_piece
point_at at [] = tt
point_at at (b ∷ bytes) = either at (b == 46) _ _ (λ k. (two_bytes, inl refl, tt)) tt

colon_at : (at : ℕ) (bytes : List ℕ) → IsPieceAt at (colon_piece bytes)
unfolding colon_piece
colon_at at [] = (one_byte, inl refl, tt)
colon_at at (b ∷ bytes) = either at (b == 61) _ _ (λ k. (two_bytes, inl refl, tt)) (one_byte, inl refl, tt)

delimiter_at : (at b : ℕ) (bytes : List ℕ) → IsPieceAt at (delimiter_piece at b bytes)
unfolding delimiter_piece
delimiter_at at b bytes =
    either at (b == 40) _ _ (λ k. open_at at bytes)
    (either at (b == 47) _ _ (λ k. slash_at at bytes)
    (either at (b == 46) _ _ (λ k. point_at at bytes)
    (either at (b == 58) _ _ (λ k. colon_at at bytes)
    (either at (b == 59) _ _ (λ k. (one_byte, inl refl, tt))
    (either at (b == 44) _ _ (λ k. (one_byte, inl refl, tt))
    (either at (b == 41) _ _ (λ k. (one_byte, inl refl, tt))
    (either at (b == 43) _ _ (λ k. (one_byte, inl refl, tt))
    (either at (b == 45) _ _ (λ k. (one_byte, inl refl, tt)) tt))))))))

piece_at : (at b : ℕ) (bytes : List ℕ) → IsPieceAt at (piece_of at (b ∷ bytes))
unfolding word_token
piece_at at b bytes =
    let n = run is_name_byte (b ∷ bytes) in
    either at (is_blank b) _ _ (λ k. one_byte)
    (either at (is_name_start b) _ _ (λ k. word_at at n (meaning_in meanings (take n (b ∷ bytes)))
    (run_first is_name_byte b bytes (or_left (is_name_start b) (is_ascii_digit b) k)))
    (either at (is_ascii_digit b) _ _ (number_at at b bytes)
    (delimiter_at at b bytes)))

-- ---- the cut

abbrev LexedWithin : ℕ → ℕ → Lexed → Type 0
LexedWithin low end (Ok l) = AscendWithin low end (filter_map offset_of l.0) × All IsTokenInScale l.0
LexedWithin low end (Err e) = Unit {0}

LexedWithin-lower : (low from end : ℕ) (l : Lexed) → low ≤ from → LexedWithin from end l → LexedWithin low end l
LexedWithin-lower low from end (Ok l) h up =
    (AscendWithin-lower low from end (filter_map offset_of l.0) h up.0, up.1)
LexedWithin-lower low from end (Err e) h up = tt

fronted_within : (t : Token) (at end : ℕ) (l : Lexed) → at < end → (offset_of t ≡ None) ⊎ (offset_of t ≡ Some at)
    → IsTokenInScale t → LexedWithin (suc at) end l → LexedWithin at end (in_front t at l)
fronted_within t at end (Ok l) h (inl none) scale up = (
  rw none (AscendWithin-lower at (suc at) end (filter_map offset_of l.0) (omega arith) up.0),
  All-cons IsTokenInScale t l.0 scale up.1,
)
fronted_within t at end (Ok l) h (inr some) scale up =
    (rw some (omega arith, (h, up.0)), All-cons IsTokenInScale t l.0 scale up.1)
fronted_within t at end (Err e) h o scale up = tt

next_within : (at end : ℕ) (p : Piece) (go : ℕ → Lexed) → at < end → IsPieceAt at p
    → ((n : ℕ) → LexedWithin (at + n) end (go n))
    → LexedWithin at end (next_piece at p go)
next_within at end (piece.Skip n) go h is up = LexedWithin-lower at (at + n) end (go n) (omega arith) (up n)
next_within at end (piece.Token t n) go h is up =
    fronted_within t at end (go n) h is.1 is.2
    (LexedWithin-lower (suc at) (at + n) end (go n) (omega (arith, is.0)) (up n))
next_within at end (piece.Fault k) go h is up = tt

lexed_within : (fuel at end : ℕ) (bytes : List ℕ) → length bytes ≤ end - at → LexedWithin at end (lexed fuel at bytes)
unfolding lexed
lexed_within zero at end bytes h = (tt, All-nil IsTokenInScale)
lexed_within (suc fuel) at end [] h = (tt, All-nil IsTokenInScale)
lexed_within (suc fuel) at end (b ∷ bytes) h =
    next_within at end (piece_of at (b ∷ bytes)) (λ n. lexed fuel (at + n) (drop n (b ∷ bytes))) (omega (arith, h))
    (piece_at at b bytes)
    (λ n. lexed_within fuel (at + n) end (drop n (b ∷ bytes)) (omega (arith, h, length-drop n (b ∷ bytes))))

tokens_within : (text : List ℕ) (tokens : List Token) (places : List ℕ) → HasTokens text tokens places
    → LexedWithin 0 (length text) (Ok (tokens, places))
tokens_within text tokens places cut =
    subst (LexedWithin 0 (length text)) (tokens_are_cut text tokens places cut)
    (lexed_within (length text) 0 (length text) text (omega arith))

pub tokens_ascend_lem : TokensAscend
tokens_ascend_lem text tokens places cut = (tokens_within text tokens places cut).0

pub tokens_in_scale_lem : TokensInScale
tokens_in_scale_lem text tokens places cut = (tokens_within text tokens places cut).1
