-- Bytes spell one token at most, and a text has one fault at its front.
use Rattle.std.proofs.Common.{◌≡◌, ℕ, ◌<◌, ◌≤◌, Bool, true, false, List, [], ◌∷◌, ◌++◌, length, take, drop, Option}
use Rattle.std.proofs.Common.{Some, None, Result, Ok, Err, refl, sym, ap, subst, ◌∙◌, arith, inl, inr}
use Rattle.std.specs.Prelude.{◌==◌, if◌then◌else◌}
use Rattle.std.specs.Char.{is_ascii_digit}
use Rattle.std.specs.List.{prefix_len}
use Rattle.std.proofs.lemmas.Bool.{both_ways, cases_Bool, eq-eqb}
use Rattle.std.proofs.lemmas.List.{append-nil, length-append}
use Rattle.std.proofs.lemmas.List.Sums.{prefix_len-le-length}
use Rattle.std.proofs.Math.Seq.{drop-append_seam, take-append_seam}
use Rattle.fz_num.specs.{Decimals.decimal, declared.dec.Dec.Dec, declared.dec.DecFault.DecFault}
use Rattle.fcl_tokens.specs.declared.lexer.LexKind.{LexKind}
use Rattle.fcl_tokens.specs.declared.lexer.LexKind.TheVariants as kinds
use Rattle.fcl_tokens.specs.declared.lexer.Piece.{Piece}
use Rattle.fcl_tokens.specs.declared.lexer.Piece.TheVariants as piece
use Rattle.fcl_tokens.specs.declared.token.Meaning.{Meaning}
use Rattle.fcl_tokens.specs.declared.token.Meaning.TheVariants as meaning
use Rattle.fcl_tokens.specs.declared.token.Token.{Token}
use Rattle.fcl_tokens.specs.declared.token.Token.TheVariants as tok
use Rattle.fcl_tokens.specs.Meanings.{meanings}
use Rattle.fcl_tokens.specs.Tokens.{is_blank, is_name_start, is_name_byte, starts_name, IsName, IsDigits, IsPointed}
use Rattle.fcl_tokens.specs.Tokens.{IsNumber, amount_of, meaning_in, IsToken, IsGap, IsSpelling, IsTogether, IsFaulty}
use Rattle.fcl_tokens.specs.Lexing.{run, number_len, decimal_piece, number_piece, token_of, word_token, piece_of}
use Rattle.fcl_tokens.specs.Lexing.{colon_piece, delimiter_piece, open_piece, point_piece}
use Rattle.fcl_tokens.proofs.CutLists.{same_front, all_in_run, run_is}
use Rattle.fcl_tokens.proofs.CutPieces.{blank_member, blanks, clash, digit_not_start, digits_most, member}
use Rattle.fcl_tokens.proofs.CutPieces.{number_digit, number_front, units_are}

-- ---- what stands together is not empty

number_some : (whole : Bool) (bytes : List ℕ) → IsNumber whole bytes → 0 < length bytes
number_some true bytes d = d.0
number_some false bytes p = omega (arith, ap length p.parts, length-append p.units (46 ∷ p.places))

name_some : (bytes : List ℕ) → IsName bytes → 0 < length bytes
name_some [] n = absurd (let h = n.0 in cc)
name_some (b ∷ bytes) n = omega arith

token_some : (at : ℕ) (bytes : List ℕ) (t : Token) → IsToken at bytes t → 0 < length bytes
token_some at bytes (tok.Word place k) h = name_some bytes h.1
token_some at bytes (tok.Name place w) h = name_some bytes h.1
token_some at bytes (tok.Number place n whole) h = number_some whole bytes h.1
token_some at bytes (tok.Open place) h = omega (arith, ap length h.1)
token_some at bytes _ h = omega (arith, ap length h)

pub some_bytes : (bytes : List ℕ) → IsTogether bytes → 0 < length bytes
some_bytes bytes (inl (inl g)) = omega (arith, ap length g.1)
some_bytes bytes (inl (inr (inl c))) = omega (arith, ap length c.parts)
some_bytes bytes (inl (inr (inr l))) = omega (arith, ap length l.parts)
some_bytes bytes (inr (inl n)) = number_some n.0 bytes n.1
some_bytes bytes (inr (inr t)) = token_some t.0 bytes t.1 t.2

-- ---- a token is no blank and no comment

-- what the first byte of a token says
record TokenFirst (b : ℕ) (tail : List ℕ) : Type 0 where
  no_blank : is_blank b ≡ false
  no_line : b ≡ 47 → ⊥
  alone : b ≡ 40 → tail ≡ []

not_blank : (p : ℕ → Bool) (b : ℕ) → p b ≡ true → (is_blank b ≡ true → p b ≡ false) → is_blank b ≡ false
not_blank p b h f = elim (cases_Bool (is_blank b)) [
  | inl dark ↦ absurd (both_ways (p b) (f dark) h)
  | inr light ↦ light
]

name_first : (b : ℕ) (tail : List ℕ) → IsName (b ∷ tail) → TokenFirst b tail
name_first b tail n = record {
  no_blank = not_blank is_name_start b n.0 (λ dark. member is_name_start blanks b (blank_member b dark) refl);
  no_line = λ e. clash is_name_start b 47 e n.0 refl;
  alone = λ e. absurd (clash is_name_start b 40 e n.0 refl);
}

number_first : (whole : Bool) (b : ℕ) (tail : List ℕ) → IsNumber whole (b ∷ tail) → TokenFirst b tail
number_first whole b tail n =
    let digit : is_ascii_digit b ≡ true =
    number_digit b tail (b ∷ tail) [] (ap (λ (l : List ℕ). b ∷ l) (sym (append-nil tail))) whole n in
    record {
      no_blank = not_blank is_ascii_digit b digit (λ dark. member is_ascii_digit blanks b (blank_member b dark) refl);
      no_line = λ e. clash is_ascii_digit b 47 e digit refl;
      alone = λ e. absurd (clash is_ascii_digit b 40 e digit refl);
    }

head_or_zero : List ℕ → ℕ
head_or_zero [] = 0
head_or_zero (x ∷ xs) = x

tail_of : List ℕ → List ℕ
tail_of [] = []
tail_of (x ∷ xs) = xs

sign_first : (b n : ℕ) (tail rest : List ℕ) → b ∷ tail ≡ n ∷ rest → is_blank n ≡ false → (n == 47) ≡ false
    → (n ≡ 40 → rest ≡ []) → TokenFirst b tail
unfolding head_or_zero tail_of
sign_first b n tail rest e dark line alone =
    let same : b ≡ n = ap head_or_zero e in
    record {
      no_blank = ap is_blank same ∙ dark;
      no_line = λ k. both_ways (n == 47) line (eq-eqb n 47 (sym same ∙ k));
      alone = λ k. ap tail_of e ∙ alone (sym same ∙ k);
    }

token_first : (at b : ℕ) (tail : List ℕ) (t : Token) → IsToken at (b ∷ tail) t → TokenFirst b tail
token_first at b tail (tok.Word place k) h = name_first b tail h.1
token_first at b tail (tok.Name place w) h = name_first b tail h.1
token_first at b tail (tok.Number place n whole) h = number_first whole b tail h.1
token_first at b tail (tok.Open place) h = sign_first b 40 tail [] h.1 refl refl (λ k. refl)
token_first at b tail tok.Close h = sign_first b 41 tail [] h refl refl (λ k. refl)
token_first at b tail tok.Assign h = sign_first b 58 tail (61 ∷ []) h refl refl (λ k. absurd (omega (arith, k)))
token_first at b tail tok.To h = sign_first b 46 tail (46 ∷ []) h refl refl (λ k. absurd (omega (arith, k)))
token_first at b tail tok.Colon h = sign_first b 58 tail [] h refl refl (λ k. refl)
token_first at b tail tok.Semicolon h = sign_first b 59 tail [] h refl refl (λ k. refl)
token_first at b tail tok.Comma h = sign_first b 44 tail [] h refl refl (λ k. refl)
token_first at b tail tok.Plus h = sign_first b 43 tail [] h refl refl (λ k. refl)
token_first at b tail tok.Minus h = sign_first b 45 tail [] h refl refl (λ k. refl)

gap_no_token : (at : ℕ) (bytes : List ℕ) (t : Token) → IsGap bytes → IsToken at bytes t → ⊥
gap_no_token at bytes t (inl g) h =
    let first = token_first at g.0 [] t (subst (λ (l : List ℕ). IsToken at l t) g.1 h) in
    both_ways (is_blank g.0) first.no_blank g.2
gap_no_token at bytes t (inr (inl c)) h =
    let first = token_first at 40 (42 ∷ (c.inside ++ (42 ∷ 41 ∷ []))) t
    (subst (λ (l : List ℕ). IsToken at l t) c.parts h) in
    omega (arith, ap length (first.alone refl))
gap_no_token at bytes t (inr (inr l)) h =
    let first = token_first at 47 (47 ∷ l.inside) t (subst (λ (m : List ℕ). IsToken at m t) l.parts h) in
    first.no_line refl

-- ---- the token of some bytes

digits_no_point : (bytes : List ℕ) → IsDigits bytes → IsPointed bytes → ⊥
digits_no_point bytes d p =
    let u = units_are bytes bytes [] (sym (append-nil bytes)) p in
    omega (
      arith,
      digits_most bytes bytes [] (sym (append-nil bytes)) d,
      u.0,
      ap length p.parts,
      length-append p.units (46 ∷ p.places),
    )

one_form : (bytes : List ℕ) (v w : Bool) → IsNumber v bytes → IsNumber w bytes → v ≡ w
one_form bytes true true d e = refl
one_form bytes false false d e = refl
one_form bytes true false d e = absurd (digits_no_point bytes d e)
one_form bytes false true d e = absurd (digits_no_point bytes e d)

if_true : {A : Type 0} (c : Bool) (x y : A) → c ≡ true → (if c then x else y) ≡ x
if_true true x y h = refl
if_true false x y h = absurd cc

if_false : {A : Type 0} (c : Bool) (x y : A) → c ≡ false → (if c then x else y) ≡ y
if_false true x y h = absurd cc
if_false false x y h = refl

named_piece : (at b : ℕ) (tail : List ℕ) → IsName (b ∷ tail)
    → piece_of at (b ∷ tail) ≡ piece.Token (word_token at (b ∷ tail)) (length (b ∷ tail))
named_piece at b tail n =
    let first = name_first b tail n in
    let text : List ℕ = b ∷ tail in
    let most : length text ≤ prefix_len is_name_byte (text ++ []) = all_in_run is_name_byte text [] n.1 in
    let least : prefix_len is_name_byte text ≤ length text = prefix_len-le-length is_name_byte text in
    let len : run is_name_byte text ≡ length text =
    omega (arith, most, ap (prefix_len is_name_byte) (append-nil text), run_is is_name_byte text, least) in
    let all : take (length text) text ≡ text = ap (take (length text)) (sym (append-nil text))
    ∙ take-append_seam text [] in
    if_false (is_blank b) _ _ first.no_blank ∙ if_true (is_name_start b) _ _ n.0
    ∙ ap (λ (k : ℕ). piece.Token (word_token at (take k text)) k) len
    ∙ ap (λ (l : List ℕ). piece.Token (word_token at l) (length text)) all

name_piece : (at : ℕ) (bytes : List ℕ) (m : Meaning) → IsName bytes → meaning_in meanings bytes ≡ m
    → piece_of at bytes ≡ piece.Token (token_of at m) (length bytes)
unfolding word_token
name_piece at [] m n e = absurd (let h = n.0 in cc)
name_piece at (b ∷ tail) m n e =
    named_piece at b tail n ∙ ap (λ (m : Meaning). piece.Token (token_of at m) (length (b ∷ tail))) e

number_found : (at b : ℕ) (tail : List ℕ) (whole : Bool) (d : Dec) → IsNumber whole (b ∷ tail)
    → decimal (b ∷ tail) ≡ Ok d
    → piece_of at (b ∷ tail) ≡ piece.Token (tok.Number at (amount_of d) whole) (length (b ∷ tail))
unfolding number_piece
number_found at b tail whole d n e =
    let text : List ℕ = b ∷ tail in
    let first = number_first whole b tail n in
    let digit : is_ascii_digit b ≡ true = number_digit b tail text [] (sym (append-nil text)) whole n in
    let no_name : is_name_start b ≡ false =
    elim (cases_Bool (is_name_start b)) [ inl h ↦ absurd (digit_not_start b digit h) | inr h ↦ h ] in
    let f = number_front b tail digit in
    let k : ℕ = number_len text in
    let most : length text ≤ k =
    reaches whole n (f.units_most text [] (sym (append-nil text)))
    (f.pointed_most text [] (sym (append-nil text))) in
    let len : length f.front ≡ length text =
    omega (arith, most, f.len, ap length f.parts, length-append f.front f.behind) in
    let same = same_front f.front text f.behind [] (sym f.parts ∙ sym (append-nil text)) len in
    let long : k ≡ length text = sym f.len ∙ len in
    let form : (k == run is_ascii_digit text) ≡ whole =
    f.is_whole ∙ one_form text f.whole whole (subst (IsNumber f.whole) same.0 f.is) n in
    let taken : take k text ≡ text = ap (λ (j : ℕ). take j text) long ∙ ap (take (length text)) (sym (append-nil text))
    ∙ take-append_seam text [] in
    let dropped : drop k text ≡ [] = ap (λ (j : ℕ). drop j text) long ∙ ap (drop (length text)) (sym (append-nil text))
    ∙ drop-append_seam text [] in
    if_false (is_blank b) _ _ first.no_blank ∙ if_false (is_name_start b) _ _ no_name
    ∙ if_true (is_ascii_digit b) _ _ digit
    ∙ if_false (starts_name (drop k text)) _ _ (ap starts_name dropped)
    ∙ ap (decimal_piece at k (k == run is_ascii_digit text)) (ap decimal taken ∙ e)
    ∙ ap (λ (w : Bool). piece.Token (tok.Number at (amount_of d) w) k) form
    ∙ ap (λ (j : ℕ). piece.Token (tok.Number at (amount_of d) whole) j) long
  where
    reaches : {text : List ℕ} {k : ℕ} (w : Bool) → IsNumber w text → (IsDigits text → length text ≤ k)
        → (IsPointed text → length text ≤ k) → length text ≤ k
    reaches true n units pointed = units n
    reaches false n units pointed = pointed n

number_token : (at : ℕ) (bytes : List ℕ) (whole : Bool) (d : Dec) → IsNumber whole bytes → decimal bytes ≡ Ok d
    → piece_of at bytes ≡ piece.Token (tok.Number at (amount_of d) whole) (length bytes)
number_token at [] whole d n e = absurd (omega (arith, number_some whole [] n))
number_token at (b ∷ tail) whole d n e = number_found at b tail whole d n e

-- what the lexer finds in the bytes of a token alone
token_piece : (at : ℕ) (bytes : List ℕ) (t : Token) → IsToken at bytes t
    → piece_of at bytes ≡ piece.Token t (length bytes)
unfolding delimiter_piece open_piece point_piece colon_piece
token_piece at bytes (tok.Word place k) h =
    name_piece at bytes (meaning.Keyword k) h.1 h.2
    ∙ ap (λ (n : ℕ). piece.Token (tok.Word n k) (length bytes)) (sym h.0)
token_piece at bytes (tok.Name place w) h = name_piece at bytes (meaning.Name w) h.1 h.2
    ∙ ap (λ (n : ℕ). piece.Token (tok.Name n w) (length bytes)) (sym h.0)
token_piece at bytes (tok.Number place n whole) h =
    number_token at bytes whole h.2.0 h.1 h.2.1
    ∙ ap (λ (m : _). piece.Token (tok.Number at m whole) (length bytes)) (sym h.2.2)
    ∙ ap (λ (m : ℕ). piece.Token (tok.Number m n whole) (length bytes)) (sym h.0)
token_piece at bytes (tok.Open place) h =
    subst (λ (l : List ℕ). piece_of at l ≡ piece.Token (tok.Open place) (length l)) (sym h.1)
    (ap (λ (n : ℕ). piece.Token (tok.Open n) 1) (sym h.0))
token_piece at bytes _ h = rw h refl

same_token : (p : Piece) (t u : Token) (m n : ℕ) → p ≡ piece.Token t m → p ≡ piece.Token u n → t ≡ u
same_token (piece.Skip k) t u m n a b = absurd cc
same_token (piece.Token v k) t u m n a b = cc
same_token (piece.Fault k) t u m n a b = absurd cc

pub one_spelling : (at : ℕ) (bytes : List ℕ) (t u : Option Token) → IsSpelling at bytes t
    → IsSpelling at bytes u → t ≡ u
one_spelling at bytes None None g h = refl
one_spelling at bytes None (Some u) g h = absurd (gap_no_token at bytes u g h)
one_spelling at bytes (Some t) None g h = absurd (gap_no_token at bytes t h g)
one_spelling at bytes (Some t) (Some u) g h =
    ap (λ (x : Token). Some x)
    (same_token (piece_of at bytes) t u (length bytes) (length bytes) (token_piece at bytes t g)
    (token_piece at bytes u h))

-- ---- a text has one fault at its front

same_wrong : (r : Result Dec DecFault) (d e : DecFault) → r ≡ Err d → r ≡ Err e → d ≡ e
same_wrong (Ok x) d e p q = absurd cc
same_wrong (Err c) d e p q = cc

pub one_fault : (text : List ℕ) (j k : LexKind) → IsFaulty j text → IsFaulty k text → j ≡ k
one_fault text kinds.BadByte kinds.BadByte f g = refl
one_fault text kinds.OpenComment kinds.OpenComment f g = refl
one_fault text kinds.BadByte kinds.OpenComment f g =
    absurd (f.1 (40 ∷ []) (42 ∷ g.0) g.1 (inr (inr (0, tok.Open 0, (refl, refl)))))
one_fault text kinds.OpenComment kinds.BadByte f g =
    absurd (g.1 (40 ∷ []) (42 ∷ f.0) f.1 (inr (inr (0, tok.Open 0, (refl, refl)))))
one_fault text kinds.BadByte (kinds.Number e) f g = absurd (f.1 g.0 g.1 g.2 (inr (inl g.3)))
one_fault text (kinds.Number d) kinds.BadByte f g = absurd (g.1 f.0 f.1 f.2 (inr (inl f.3)))
one_fault text kinds.OpenComment (kinds.Number e) f g =
    absurd (let h = number_digit 40 (42 ∷ f.0) g.0 g.1 (sym f.1 ∙ g.2) g.3.0 g.3.1 in cc)
one_fault text (kinds.Number d) kinds.OpenComment f g =
    absurd (let h = number_digit 40 (42 ∷ g.0) f.0 f.1 (sym g.1 ∙ f.2) f.3.0 f.3.1 in cc)
one_fault text (kinds.Number d) (kinds.Number e) f g =
    let shorter : length g.0 ≤ length f.0 = f.4 g.0 g.1 g.2 (inr (inl g.3)) in
    let longer : length f.0 ≤ length g.0 = g.4 f.0 f.1 f.2 (inr (inl f.3)) in
    let same = same_front f.0 g.0 f.1 g.1 (sym f.2 ∙ g.2) (omega (arith, shorter, longer)) in
    let starts : starts_name f.1 ≡ starts_name g.1 = ap starts_name same.1 in
    ap (λ (x : DecFault). kinds.Number x) (elim f.5 [
      | inl a ↦ elim g.5 [ inl b ↦ a.1 ∙ sym b.1 | inr b ↦ absurd (both_ways (starts_name g.1) b.0 (sym starts ∙ a.0)) ]
      | inr a ↦ elim g.5 [
        | inl b ↦ absurd (both_ways (starts_name g.1) (sym starts ∙ a.0) b.0)
        | inr b ↦ same_wrong (decimal g.0) d e
            (ap decimal (sym same.0) ∙ a.1) b.1
      ]
    ])

pub no_fault_in_nothing : (k : LexKind) → IsFaulty k [] → ⊥
no_fault_in_nothing kinds.BadByte f = omega (arith, f.0)
no_fault_in_nothing kinds.OpenComment f = omega (arith, ap length f.1)
no_fault_in_nothing (kinds.Number e) f =
    omega (arith, ap length f.2, length-append f.0 f.1, number_some f.3.0 f.0 f.3.1)
