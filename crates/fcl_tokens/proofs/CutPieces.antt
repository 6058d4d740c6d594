-- What the lexer finds at the front of a text is what stands there.
use Rattle.std.proofs.Common.{◌≡◌, ℕ, ◌+◌, ◌<◌, ◌≤◌, Bool, true, false, List, [], ◌∷◌, ◌++◌, length, take, drop, Option}
use Rattle.std.proofs.Common.{Some, None, Result, Ok, Err, refl, sym, ap, subst, ◌∙◌, append_assoc, arith, inl, inr}
use Rattle.std.specs.Prelude.{◌==◌, ◌||◌, if◌then◌else◌, not}
use Rattle.std.specs.Char.{is_ascii_digit}
use Rattle.std.specs.List.{list_all, list_any, prefix_len, take_while}
use Rattle.std.proofs.lemmas.Bool.{and_parts, eqb-true, eq-eqb, ne_eqb, both_ways, not-true, or_cases, cases_lt}
use Rattle.std.proofs.lemmas.Bool.{cases_Bool}
use Rattle.std.proofs.lemmas.List.{length-append, take-append-drop}
use Rattle.std.proofs.lemmas.List.Sums.{take_while-cons}
use Rattle.std.proofs.Math.Seq.{drop-append_seam, take-append_seam, drop-append-add}
use Rattle.fz_num.specs.Decimals.{decimal}
use Rattle.fz_num.specs.declared.{dec.Dec.Dec, dec.DecFault.DecFault, dec.DecFault.TheVariants.Shape}
use Rattle.fcl_tokens.specs.declared.lexer.LexKind.{LexKind}
use Rattle.fcl_tokens.specs.declared.lexer.LexKind.TheVariants as kinds
use Rattle.fcl_tokens.specs.declared.lexer.Piece.{Piece}
use Rattle.fcl_tokens.specs.declared.lexer.Piece.TheVariants as piece
use Rattle.fcl_tokens.specs.declared.token.Meaning.{Meaning}
use Rattle.fcl_tokens.specs.declared.token.Meaning.TheVariants as meaning
use Rattle.fcl_tokens.specs.declared.token.Token.{Token}
use Rattle.fcl_tokens.specs.declared.token.Token.TheVariants as tok
use Rattle.fcl_tokens.specs.Meanings.{meanings}
use Rattle.fcl_tokens.specs.Tokens.{is_blank, is_name_start, is_name_byte, is_line_byte, starts_name, IsComment}
use Rattle.fcl_tokens.specs.Tokens.{IsLineComment, IsName, IsDigits, IsPointed, IsNumber, amount_of, meaning_in}
use Rattle.fcl_tokens.specs.Tokens.{IsToken, IsSpelling, IsTogether, IsLongest, IsFaulty, IsFront}
use Rattle.fcl_tokens.specs.Lexing.{run, comment_end, comment_piece, has_fraction, number_len, decimal_piece}
use Rattle.fcl_tokens.specs.Lexing.{number_piece, token_of, word_token, open_piece, slash_piece, point_piece}
use Rattle.fcl_tokens.specs.Lexing.{colon_piece, delimiter_piece, piece_of}
use Rattle.fcl_tokens.proofs.Cutting.{or_left, run_first}
use Rattle.fcl_tokens.proofs.CutLists.{same_front, begins_with, all_in_run, run_ends, run_is, run_passes, run_splits}
use Rattle.fcl_tokens.proofs.CutLists.{FirstEnd, comment_ends, comment_open, same_head, same_tail}

-- ---- single bytes

pub clash : (p : ℕ → Bool) (b n : ℕ) → b ≡ n → p b ≡ true → p n ≡ false → ⊥
clash p b n e h f = both_ways (p b) (ap p e ∙ f) h

-- whether a byte is one of these
abbrev pub mem : ℕ → List ℕ → Bool
mem b ns = list_any (λ (n : ℕ). b == n) ns

-- what holds of none of the list does not hold of its member
pub member : (p : ℕ → Bool) (ns : List ℕ) (b : ℕ) → mem b ns ≡ true → list_all (λ (n : ℕ). not (p n)) ns ≡ true
    → p b ≡ false
member p [] b h all = absurd cc
member p (n ∷ ns) b h all =
    go (member p ns b) (b == n) refl h (and_parts (not (p n)) (list_all (λ (n : ℕ). not (p n)) ns) all)
  where
    go : (mem b ns ≡ true → list_all (λ (n : ℕ). not (p n)) ns ≡ true → p b ≡ false) → (c : Bool) → (b == n) ≡ c
        → (c || mem b ns) ≡ true
        → (not (p n) ≡ true) × (list_all (λ (n : ℕ). not (p n)) ns ≡ true) → p b ≡ false
    go again true e h all = ap p (eqb-true b n e) ∙ not-true (p n) all.0
    go again false e h all = again h all.1

abbrev pub blanks : List ℕ
blanks = 32 ∷ 9 ∷ 13 ∷ 10 ∷ []

pub blank_member : (b : ℕ) → is_blank b ≡ true → mem b blanks ≡ true
blank_member b h =
    elim (or_cases (b == 32 || b == 9 || b == 13) (b == 10) h) [
      | inl h ↦ elim (or_cases (b == 32 || b == 9) (b == 13) h) [
        | inl h ↦ elim (or_cases (b == 32) (b == 9) h) [
          | inl h ↦ subst (λ (n : ℕ). mem n blanks ≡ true) (sym (eqb-true b 32 h)) refl
          | inr h ↦ subst (λ (n : ℕ). mem n blanks ≡ true) (sym (eqb-true b 9 h)) refl
        ]
        | inr h ↦ subst (λ (n : ℕ). mem n blanks ≡ true) (sym (eqb-true b 13 h)) refl
      ]
      | inr h ↦ subst (λ (n : ℕ). mem n blanks ≡ true) (sym (eqb-true b 10 h)) refl
    ]

pub digit_not_start : (b : ℕ) → is_ascii_digit b ≡ true → is_name_start b ≡ true → ⊥
digit_not_start b h k = grind (arith, h, k)

-- the delimiters of one byte
abbrev signs : List ℕ
signs = 40 ∷ 41 ∷ 58 ∷ 59 ∷ 44 ∷ 43 ∷ 45 ∷ []

not_sign : (b n : ℕ) → mem b signs ≡ true → list_all (λ (m : ℕ). not (m == n)) signs ≡ true → b ≡ n → ⊥
not_sign b n s all e = both_ways (b == n) (member (λ (m : ℕ). m == n) signs b s all) (eq-eqb b n e)

-- ---- what the first byte of what stands together says

data Head (b : ℕ) (front : List ℕ) : Type 0 where
  blank : is_blank b ≡ true → front ≡ b ∷ [] → Head b front
  comment : b ≡ 40 → IsComment front → Head b front
  line : b ≡ 47 → IsLineComment front → Head b front
  number : is_ascii_digit b ≡ true → (whole : Bool) → IsNumber whole front → Head b front
  name : is_name_start b ≡ true → IsName front → Head b front
  sign : mem b signs ≡ true → front ≡ b ∷ [] → Head b front
  to : b ≡ 46 → front ≡ 46 ∷ 46 ∷ [] → Head b front
  assign : b ≡ 58 → front ≡ 58 ∷ 61 ∷ [] → Head b front

first_byte : (b n : ℕ) (bytes front tail behind : List ℕ) → b ∷ bytes ≡ front ++ behind → front ≡ n ∷ tail → b ≡ n
first_byte b n bytes front tail behind e f =
    same_head b n bytes (tail ++ behind) (e ∙ ap (λ (l : List ℕ). l ++ behind) f)

next_bytes : (b n : ℕ) (bytes front tail behind : List ℕ) → b ∷ bytes ≡ front ++ behind → front ≡ n ∷ tail
    → bytes ≡ tail ++ behind
next_bytes b n bytes front tail behind e f =
    same_tail b n bytes (tail ++ behind) (e ∙ ap (λ (l : List ℕ). l ++ behind) f)

digits_head : (b : ℕ) (bytes front behind : List ℕ) → b ∷ bytes ≡ front ++ behind → IsDigits front
    → is_ascii_digit b ≡ true
digits_head b bytes [] behind e d = absurd (omega (arith, d.0))
digits_head b bytes (x ∷ front) behind e d =
    ap is_ascii_digit (same_head b x bytes (front ++ behind) e)
    ∙ (and_parts (is_ascii_digit x) (list_all is_ascii_digit front) d.1).0

pub number_digit : (b : ℕ) (bytes front behind : List ℕ) → b ∷ bytes ≡ front ++ behind → (whole : Bool)
    → IsNumber whole front → is_ascii_digit b ≡ true
number_digit b bytes front behind e true d = digits_head b bytes front behind e d
number_digit b bytes front behind e false p =
    digits_head b bytes p.units ((46 ∷ p.places) ++ behind) (e ∙ ap (λ (l : List ℕ). l ++ behind) p.parts
    ∙ append_assoc p.units (46 ∷ p.places) behind) p.digits.0

pub name_head : (b : ℕ) (bytes front behind : List ℕ) → b ∷ bytes ≡ front ++ behind → IsName front
    → is_name_start b ≡ true
name_head b bytes [] behind e n = absurd (let h = n.0 in cc)
name_head b bytes (x ∷ front) behind e n = ap is_name_start (same_head b x bytes (front ++ behind) e) ∙ n.0

sign_head : (b n : ℕ) (bytes front behind : List ℕ) → b ∷ bytes ≡ front ++ behind → mem n signs ≡ true → front ≡ n ∷ []
    → Head b front
sign_head b n bytes front behind e s f =
    let same : b ≡ n = first_byte b n bytes front [] behind e f in
    sign (ap (λ (m : ℕ). mem m signs) same ∙ s) (f ∙ ap (λ (m : ℕ). m ∷ []) (sym same))

token_head : (b : ℕ) (bytes front behind : List ℕ) → b ∷ bytes ≡ front ++ behind → (at : ℕ) (t : Token)
    → IsToken at front t → Head b front
token_head b bytes front behind e at (tok.Word place k) h = name (name_head b bytes front behind e h.1) h.1
token_head b bytes front behind e at (tok.Name place w) h = name (name_head b bytes front behind e h.1) h.1
token_head b bytes front behind e at (tok.Number place n whole) h =
    number (number_digit b bytes front behind e whole h.1) whole h.1
token_head b bytes front behind e at (tok.Open place) h = sign_head b 40 bytes front behind e refl h.1
token_head b bytes front behind e at tok.Close h = sign_head b 41 bytes front behind e refl h
token_head b bytes front behind e at tok.Assign h = assign (first_byte b 58 bytes front (61 ∷ []) behind e h) h
token_head b bytes front behind e at tok.To h = to (first_byte b 46 bytes front (46 ∷ []) behind e h) h
token_head b bytes front behind e at tok.Colon h = sign_head b 58 bytes front behind e refl h
token_head b bytes front behind e at tok.Semicolon h = sign_head b 59 bytes front behind e refl h
token_head b bytes front behind e at tok.Comma h = sign_head b 44 bytes front behind e refl h
token_head b bytes front behind e at tok.Plus h = sign_head b 43 bytes front behind e refl h
token_head b bytes front behind e at tok.Minus h = sign_head b 45 bytes front behind e refl h

head : (b : ℕ) (bytes front behind : List ℕ) → b ∷ bytes ≡ front ++ behind → IsTogether front → Head b front
head b bytes front behind e (inl (inl g)) =
    let same : b ≡ g.0 = first_byte b g.0 bytes front [] behind e g.1 in
    blank (ap is_blank same ∙ g.2) (g.1 ∙ ap (λ (m : ℕ). m ∷ []) (sym same))
head b bytes front behind e (inl (inr (inl c))) =
    comment (first_byte b 40 bytes front (42 ∷ (c.inside ++ (42 ∷ 41 ∷ []))) behind e c.parts) c
head b bytes front behind e (inl (inr (inr l))) = line (first_byte b 47 bytes front (47 ∷ l.inside) behind e l.parts) l
head b bytes front behind e (inr (inl n)) = number (number_digit b bytes front behind e n.0 n.1) n.0 n.1
head b bytes front behind e (inr (inr t)) = token_head b bytes front behind e t.0 t.1 t.2

-- ---- what is found

pub record Found (at : ℕ) (text : List ℕ) (t : Option Token) (n : ℕ) : Type 0 where
  pub front : List ℕ
  pub behind : List ℕ
  pub parts : text ≡ front ++ behind
  pub len : length front ≡ n
  pub is : IsFront at (record { bytes = front; token = t }) behind

abbrev pub PieceStands : ℕ → List ℕ → Piece → Type 0
PieceStands at text (piece.Skip n) = Found at text None n
PieceStands at text (piece.Token t n) = Found at text (Some t) n
PieceStands at text (piece.Fault k) = IsFaulty k text

pub together : (at : ℕ) (bytes : List ℕ) (t : Option Token) → IsSpelling at bytes t → IsTogether bytes
together at bytes None h = inl h
together at bytes (Some t) h = inr (inr (at, t, h))

make : (at : ℕ) (text front behind : List ℕ) (t : Option Token) (n : ℕ) → text ≡ front ++ behind → length front ≡ n
    → IsSpelling at front t
    → IsLongest front text → ((k : LexKind) → IsFaulty k text → ⊥) → Found at text t n
make at text front behind t n parts len spells longest faultless = record {
  front = front;
  behind = behind;
  parts = parts;
  len = len;
  is = record {
    spells = spells;
    longest = subst (IsLongest front) parts longest;
    faultless = λ k f. faultless k (subst (IsFaulty k) (sym parts) f);
  };
}

abbrev HasNoEnd : List ℕ → Type 0
HasNoEnd inside = (before after : List ℕ) → inside ≡ before ++ (42 ∷ 41 ∷ after) → ⊥

not_faulty : (b : ℕ) (bytes front behind : List ℕ) → b ∷ bytes ≡ front ++ behind → IsTogether front
    → is_ascii_digit b ≡ false
    → ((inside : List ℕ) → b ∷ bytes ≡ 40 ∷ 42 ∷ inside → HasNoEnd inside → ⊥) → (k : LexKind)
    → IsFaulty k (b ∷ bytes) → ⊥
not_faulty b bytes front behind e h digit starred kinds.BadByte f = f.1 front behind e h
not_faulty b bytes front behind e h digit starred kinds.OpenComment f = starred f.0 f.1 f.2
not_faulty b bytes front behind e h digit starred (kinds.Number d) f =
    both_ways (is_ascii_digit b) digit (number_digit b bytes f.0 f.1 f.2 f.3.0 f.3.1)

other_byte : (b : ℕ) (p : ℕ → Bool) → p b ≡ true → p 40 ≡ false → (bytes inside : List ℕ) → b ∷ bytes ≡ 40 ∷ 42 ∷ inside
    → HasNoEnd inside → ⊥
other_byte b p h no40 bytes inside e n = clash p b 40 (same_head b 40 bytes (42 ∷ inside) e) h no40

-- ---- blanks and names

blank_stands : (at b : ℕ) (bytes : List ℕ) → is_blank b ≡ true → Found at (b ∷ bytes) None 1
blank_stands at b bytes h =
    make at (b ∷ bytes) (b ∷ []) bytes None 1 refl refl (inl (b, refl, h)) longest
    (not_faulty b bytes (b ∷ []) bytes refl (inl (inl (b, refl, h)))
    (member is_ascii_digit blanks b (blank_member b h) refl)
    (other_byte b is_blank h refl bytes))
  where
    longest : IsLongest (b ∷ []) (b ∷ bytes)
    longest other behind e t =
        elim (head b bytes other behind e t) [
          | blank k f ↦ omega (arith, ap length f)
          | comment k c ↦ absurd (clash is_blank b 40 k h refl)
          | line k l ↦ absurd (clash is_blank b 47 k h refl)
          | number k w n ↦ absurd
              (both_ways (is_ascii_digit b) (member is_ascii_digit blanks b (blank_member b h) refl) k)
          | name k n ↦ absurd (both_ways (is_name_start b) (member is_name_start blanks b (blank_member b h) refl) k)
          | sign k f ↦ omega (arith, ap length f)
          | to k f ↦ absurd (clash is_blank b 46 k h refl)
          | assign k f ↦ absurd (clash is_blank b 58 k h refl)
        ]

word_spells : (at : ℕ) (bytes : List ℕ) (m : Meaning) → IsName bytes → meaning_in meanings bytes ≡ m
    → IsToken at bytes (token_of at m)
word_spells at bytes (meaning.Keyword k) n e = (refl, n, e)
word_spells at bytes (meaning.Name w) n e = (refl, n, e)

name_is : (b : ℕ) (bytes : List ℕ) → is_name_start b ≡ true → IsName (take_while is_name_byte (b ∷ bytes))
name_is b bytes h =
    let first : is_name_byte b ≡ true = or_left (is_name_start b) (is_ascii_digit b) h in
    (rw (take_while-cons is_name_byte b bytes, first) h, run_passes is_name_byte (b ∷ bytes))

name_longest : (b : ℕ) (bytes front : List ℕ) → is_blank b ≡ false → is_name_start b ≡ true
    → length front ≡ run is_name_byte (b ∷ bytes)
    → IsLongest front (b ∷ bytes)
name_longest b bytes front dark h len other behind e t =
    elim (head b bytes other behind e t) [
      | blank k f ↦ absurd (both_ways (is_blank b) dark k)
      | comment k c ↦ absurd (clash is_name_start b 40 k h refl)
      | line k l ↦ absurd (clash is_name_start b 47 k h refl)
      | number k w n ↦ absurd (digit_not_start b k h)
      | name k n ↦ omega (
        arith,
        len,
        run_is is_name_byte (b ∷ bytes),
        all_in_run is_name_byte other behind n.1,
        ap (prefix_len is_name_byte) e,
      )
      | sign k f ↦ absurd (both_ways (is_name_start b) (member is_name_start signs b k refl) h)
      | to k f ↦ absurd (clash is_name_start b 46 k h refl)
      | assign k f ↦ absurd (clash is_name_start b 58 k h refl)
    ]

digit_false : (b : ℕ) → is_name_start b ≡ true → is_ascii_digit b ≡ false
digit_false b h = elim (cases_Bool (is_ascii_digit b)) [
  | inl yes_digit ↦ absurd (digit_not_start b yes_digit h)
  | inr no_digit ↦ no_digit
]

name_stands : (at b : ℕ) (bytes : List ℕ) → is_blank b ≡ false → is_name_start b ≡ true
    → Found at (b ∷ bytes) (Some (word_token at (take (run is_name_byte (b ∷ bytes)) (b ∷ bytes))))
    (run is_name_byte (b ∷ bytes))
unfolding word_token
name_stands at b bytes dark h =
    let text : List ℕ = b ∷ bytes in
    let n : ℕ = run is_name_byte text in
    let front : List ℕ = take n text in
    let is : front ≡ take_while is_name_byte text = ap (λ (k : ℕ). take k text) (run_is is_name_byte text) in
    let spells : IsToken at front (token_of at (meaning_in meanings front)) =
    word_spells at front (meaning_in meanings front) (subst IsName (sym is) (name_is b bytes h)) refl in
    let parts : text ≡ front ++ drop n text = sym (take-append-drop n text) in
    make at text front (drop n text) (Some (token_of at (meaning_in meanings front))) n parts (ap length is) spells
    (name_longest b bytes front dark h (ap length is))
    (not_faulty b bytes front (drop n text) parts (inr (inr (at, token_of at (meaning_in meanings front), spells)))
    (digit_false b h)
    (other_byte b is_name_start h refl bytes))

-- ---- numbers

-- the longest number at the front
pub record NumberFront (text : List ℕ) (n : ℕ) : Type 0 where
  pub front : List ℕ
  pub behind : List ℕ
  pub parts : text ≡ front ++ behind
  pub len : length front ≡ n
  pub whole : Bool
  pub is : IsNumber whole front
  pub is_whole : (n == run is_ascii_digit text) ≡ whole
  pub units_most : (other after : List ℕ) → text ≡ other ++ after → IsDigits other → length other ≤ n
  pub pointed_most : (other after : List ℕ) → text ≡ other ++ after → IsPointed other → length other ≤ n

-- digits in front are no longer than the run of them
pub digits_most : (text other after : List ℕ) → text ≡ other ++ after → IsDigits other
    → length other ≤ run is_ascii_digit text
digits_most text other after e d =
    omega (
      arith,
      run_is is_ascii_digit text,
      all_in_run is_ascii_digit other after d.1,
      ap (prefix_len is_ascii_digit) e,
    )

-- the units of a number with a point are the run, and behind them is the point
pub units_are : (text other after : List ℕ) → text ≡ other ++ after → (p : IsPointed other)
    → (length p.units ≡ run is_ascii_digit text) ×
    (drop (run is_ascii_digit text) text ≡ 46 ∷ (p.places ++ after))
units_are text other after e p =
    let whole : text ≡ p.units ++ (46 ∷ (p.places ++ after)) = e ∙ ap (λ (l : List ℕ). l ++ after) p.parts
    ∙ append_assoc p.units (46 ∷ p.places) after in
    let len : prefix_len is_ascii_digit (p.units ++ (46 ∷ (p.places ++ after))) ≡ length p.units =
    run_ends is_ascii_digit p.units 46 (p.places ++ after) p.digits.0.1 refl in
    let same : length p.units ≡ run is_ascii_digit text =
    omega (arith, len, run_is is_ascii_digit text, ap (prefix_len is_ascii_digit) whole) in
    let front = same_front p.units (take_while is_ascii_digit text) (46 ∷ (p.places ++ after))
    (drop (run is_ascii_digit text) text)
    (sym whole ∙ run_splits is_ascii_digit text) same in
    (same, sym front.1)

some_digit : (places after : List ℕ) → IsDigits places → has_fraction (46 ∷ (places ++ after)) ≡ true
some_digit [] after d = absurd (omega (arith, d.0))
some_digit (x ∷ places) after d = (and_parts (is_ascii_digit x) (list_all is_ascii_digit places) d.1).0

pub record Fraction (l : List ℕ) : Type 0 where
  pub digit : ℕ
  pub more : List ℕ
  pub is : l ≡ 46 ∷ digit ∷ more
  pub digits : is_ascii_digit digit ≡ true

fraction_is : (l : List ℕ) → has_fraction l ≡ true → Fraction l
fraction_is [] h = absurd cc
fraction_is (a ∷ []) h = absurd cc
fraction_is (a ∷ d ∷ more) h = go (a == 46) refl h
  where
    go : (b : Bool) → (a == 46) ≡ b → (if b then is_ascii_digit d else false) ≡ true → Fraction (a ∷ d ∷ more)
    go true e h = record { digit = d; more = more; is = ap (λ (n : ℕ). n ∷ d ∷ more) (eqb-true a 46 e); digits = h }
    go false e h = absurd cc

whole_front : (b : ℕ) (bytes : List ℕ) → is_ascii_digit b ≡ true
    → has_fraction (drop (run is_ascii_digit (b ∷ bytes)) (b ∷ bytes)) ≡ false
    → NumberFront (b ∷ bytes) (run is_ascii_digit (b ∷ bytes))
whole_front b bytes h point =
    let text : List ℕ = b ∷ bytes in
    record {
      front = take_while is_ascii_digit text;
      behind = drop (run is_ascii_digit text) text;
      parts = run_splits is_ascii_digit text;
      len = refl;
      whole = true;
      is = (run_first is_ascii_digit b bytes h, run_passes is_ascii_digit text);
      is_whole = eq-eqb _ _ refl;
      units_most = digits_most text;
      pointed_most = λ other after e p. absurd (both_ways (has_fraction (drop (run is_ascii_digit text) text)) point
          (ap has_fraction (units_are text other after e p).1 ∙ some_digit p.places after p.digits.1));
    }

pointed_front : (b : ℕ) (bytes : List ℕ) → is_ascii_digit b ≡ true
    → has_fraction (drop (run is_ascii_digit (b ∷ bytes)) (b ∷ bytes)) ≡ true
    → NumberFront (b ∷ bytes)
    (run is_ascii_digit (b ∷ bytes) + 1 + run is_ascii_digit
    (drop (run is_ascii_digit (b ∷ bytes) + 1) (b ∷ bytes)))
pointed_front b bytes h point =
    let text : List ℕ = b ∷ bytes in
    let n : ℕ = run is_ascii_digit text in
    let units : List ℕ = take_while is_ascii_digit text in
    let f = fraction_is (drop n text) point in
    let after : List ℕ = f.digit ∷ f.more in
    let split : text ≡ units ++ (46 ∷ after) = run_splits is_ascii_digit text ∙ ap (λ (l : List ℕ). units ++ l) f.is in
    let dropped : drop (n + 1) text ≡ after = ap (drop (n + 1)) split ∙ drop-append-add units (46 ∷ after) 1 in
    let places : List ℕ = take_while is_ascii_digit after in
    let behind : List ℕ = drop (run is_ascii_digit after) after in
    let more : run is_ascii_digit (drop (n + 1) text) ≡ length places = ap (run is_ascii_digit) dropped in
    let some_units : 0 < n = run_first is_ascii_digit b bytes h in
    let some_places : 0 < length places = run_first is_ascii_digit f.digit f.more f.digits in
    record {
      front = units ++ (46 ∷ places);
      behind = behind;
      parts = split ∙ ap (λ (l : List ℕ). units ++ (46 ∷ l)) (run_splits is_ascii_digit after)
          ∙ sym (append_assoc units (46 ∷ places) behind);
      len = omega (arith, length-append units (46 ∷ places), more);
      whole = false;
      is = record {
        units = units;
        places = places;
        parts = refl;
        digits = (
          (some_units, run_passes is_ascii_digit text),
          (some_places, run_passes is_ascii_digit after),
        );
      };
      is_whole = ne_eqb _ _ (λ same. omega (arith, same));
      units_most = λ other rest e d. omega (arith, digits_most text other rest e d);
      pointed_most = λ other rest e p.
          let u = units_are text other rest e p in
          let same : p.places ++ rest ≡ after = same_tail 46 46 (p.places ++ rest) after (sym u.1 ∙ f.is) in
          omega (
            arith,
            ap length p.parts,
            length-append p.units (46 ∷ p.places),
            u.0,
            more,
            run_is is_ascii_digit after,
            all_in_run is_ascii_digit p.places rest p.digits.1.1,
            ap (prefix_len is_ascii_digit) same,
          );
    }

pub number_front : (b : ℕ) (bytes : List ℕ) → is_ascii_digit b ≡ true → NumberFront (b ∷ bytes) (number_len (b ∷ bytes))
unfolding number_len
number_front b bytes h = go (has_fraction (drop (run is_ascii_digit (b ∷ bytes)) (b ∷ bytes))) refl
  where
    go : (c : Bool) → has_fraction (drop (run is_ascii_digit (b ∷ bytes)) (b ∷ bytes)) ≡ c
        → NumberFront (b ∷ bytes) (if c then run is_ascii_digit (b ∷ bytes) + 1 + run is_ascii_digit
        (drop (run is_ascii_digit (b ∷ bytes) + 1) (b ∷ bytes)) else run is_ascii_digit (b ∷ bytes))
    go true e = pointed_front b bytes h e
    go false e = whole_front b bytes h e

number_longest : (b n : ℕ) (bytes : List ℕ) → is_blank b ≡ false → is_name_start b ≡ false → is_ascii_digit b ≡ true
    → (f : NumberFront (b ∷ bytes) n)
    → IsLongest f.front (b ∷ bytes)
number_longest b n bytes dark begins h f other behind e t =
    elim (head b bytes other behind e t) [
      | blank k f' ↦ absurd (both_ways (is_blank b) dark k)
      | comment k c ↦ absurd (clash is_ascii_digit b 40 k h refl)
      | line k l ↦ absurd (clash is_ascii_digit b 47 k h refl)
      | number k w d ↦ by_form w d
      | name k d ↦ absurd (both_ways (is_name_start b) begins k)
      | sign k f' ↦ absurd (both_ways (is_ascii_digit b) (member is_ascii_digit signs b k refl) h)
      | to k f' ↦ absurd (clash is_ascii_digit b 46 k h refl)
      | assign k f' ↦ absurd (clash is_ascii_digit b 58 k h refl)
    ]
  where
    by_form : (w : Bool) → IsNumber w other → length other ≤ length f.front
    by_form true d = omega (arith, f.units_most other behind e d, f.len)
    by_form false d = omega (arith, f.pointed_most other behind e d, f.len)

same_ok : {A E : Type 0} (r : Result A E) (a : A) (d : E) → r ≡ Ok a → r ≡ Err d → ⊥
same_ok (Ok x) a d p q = absurd cc
same_ok (Err e) a d p q = absurd cc

number_stands : (at b : ℕ) (bytes : List ℕ) → is_blank b ≡ false → is_name_start b ≡ false → is_ascii_digit b ≡ true
    → PieceStands at (b ∷ bytes) (number_piece at (b ∷ bytes))
unfolding number_piece
number_stands at b bytes dark begins h =
    let text : List ℕ = b ∷ bytes in
    let f = number_front b bytes h in
    let n : ℕ = number_len text in
    let taken : take n text ≡ f.front = ap (λ (k : ℕ). take k text) (sym f.len) ∙ ap (take (length f.front)) f.parts
    ∙ take-append_seam f.front f.behind in
    let dropped : drop n text ≡ f.behind = ap (λ (k : ℕ). drop k text) (sym f.len) ∙ ap (drop (length f.front)) f.parts
    ∙ drop-append_seam f.front f.behind in
    subst (λ (w : Bool). PieceStands at text (if starts_name (drop n text) then piece.Fault (kinds.Number Shape) else
    decimal_piece at n w (decimal (take n text)))) (sym f.is_whole)
    (subst (λ (l : List ℕ). PieceStands at text (if starts_name l then piece.Fault (kinds.Number Shape) else
    decimal_piece at n f.whole (decimal (take n text)))) (sym dropped)
    (subst (λ (l : List ℕ). PieceStands at text
    (if starts_name f.behind then piece.Fault (kinds.Number Shape) else decimal_piece at n f.whole (decimal l)))
    (sym taken)
    (judged at b n bytes h f (number_longest b n bytes dark begins h f) (starts_name f.behind) refl)))
  where
    read : (at b n : ℕ) (bytes : List ℕ) → is_ascii_digit b ≡ true → (f : NumberFront (b ∷ bytes) n)
        → IsLongest f.front (b ∷ bytes)
        → starts_name f.behind ≡ false → (r : Result Dec DecFault) → decimal f.front ≡ r
        → PieceStands at (b ∷ bytes) (decimal_piece at n f.whole r)
    read at b n bytes h f longest behind (Err d) e =
        (f.front, f.behind, f.parts, (f.whole, f.is), longest, inr (behind, e))
    read at b n bytes h f longest behind (Ok d) e =
        let spells : IsToken at f.front (tok.Number at (amount_of d) f.whole) = (refl, f.is, (d, e, refl)) in
        make at (b ∷ bytes) f.front f.behind (Some (tok.Number at (amount_of d) f.whole)) n f.parts f.len spells longest
        (faultless d e spells)
      where
        faultless : (d : Dec) → decimal f.front ≡ Ok d → IsToken at f.front (tok.Number at (amount_of d) f.whole)
            → (k : LexKind) → IsFaulty k (b ∷ bytes) → ⊥
        faultless d e spells kinds.BadByte g = g.1 f.front f.behind f.parts (inr (inl (f.whole, f.is)))
        faultless d e spells kinds.OpenComment g = other_byte b is_ascii_digit h refl bytes g.0 g.1 g.2
        faultless d e spells (kinds.Number c) g =
            let shorter : length g.0 ≤ length f.front = longest g.0 g.1 g.2 (inr (inl g.3)) in
            let longer : length f.front ≤ length g.0 = g.4 f.front f.behind f.parts (inr (inl (f.whole, f.is))) in
            let same = same_front g.0 f.front g.1 f.behind (sym g.2 ∙ f.parts) (omega (arith, shorter, longer)) in
            elim g.5 [
              | inl wrong ↦ both_ways (starts_name f.behind) behind (ap starts_name (sym same.1) ∙ wrong.0)
              | inr wrong ↦ same_ok (decimal f.front) d c e (ap decimal (sym same.0) ∙ wrong.1)
            ]

    judged : (at b n : ℕ) (bytes : List ℕ) → is_ascii_digit b ≡ true → (f : NumberFront (b ∷ bytes) n)
        → IsLongest f.front (b ∷ bytes) → (c : Bool)
        → starts_name f.behind ≡ c
        → PieceStands at (b ∷ bytes)
        (if c then piece.Fault (kinds.Number Shape) else decimal_piece at n f.whole (decimal f.front))
    judged at b n bytes h f longest true e = (f.front, f.behind, f.parts, (f.whole, f.is), longest, inl (e, refl))
    judged at b n bytes h f longest false e = read at b n bytes h f longest e (decimal f.front) refl

-- ---- comments

comment_stands : (at : ℕ) (bytes : List ℕ) (n : ℕ) → FirstEnd bytes n → Found at (40 ∷ 42 ∷ bytes) None (n + 2)
comment_stands at bytes n f =
    let ended : List ℕ = f.inside ++ (42 ∷ 41 ∷ []) in
    let front : List ℕ = 40 ∷ 42 ∷ ended in
    let whole : bytes ≡ ended ++ f.behind = f.parts ∙ sym (append_assoc f.inside (42 ∷ 41 ∷ []) f.behind) in
    let parts : 40 ∷ 42 ∷ bytes ≡ front ++ f.behind = ap (λ (l : List ℕ). 40 ∷ 42 ∷ l) whole in
    let is : IsComment front = record {
      inside = f.inside;
      parts = refl;
      next = λ before after e. f.first before (after ++ f.behind) (whole ∙ ap (λ (l : List ℕ). l ++ f.behind) e
          ∙ append_assoc before (42 ∷ 41 ∷ after) f.behind);
    } in
    make at (40 ∷ 42 ∷ bytes) front f.behind None (n + 2) parts
    (omega (arith, length-append f.inside (42 ∷ 41 ∷ []), f.len)) (inr (inl is))
    (longest front ended refl (length-append f.inside (42 ∷ 41 ∷ []))
    (no_longer ended whole refl (length-append f.inside (42 ∷ 41 ∷ []))))
    (not_faulty 40 (42 ∷ bytes) front f.behind parts (inl (inr (inl is))) refl closed)
  where
    closed : (inside : List ℕ) → 40 ∷ 42 ∷ bytes ≡ 40 ∷ 42 ∷ inside → HasNoEnd inside → ⊥
    closed inside e none =
        none f.inside f.behind
        (sym (same_tail 42 42 bytes inside (same_tail 40 40 (42 ∷ bytes) (42 ∷ inside) e)) ∙ f.parts)

    no_longer : (ended : List ℕ) → bytes ≡ ended ++ f.behind → ended ≡ f.inside ++ (42 ∷ 41 ∷ [])
        → length ended ≡ length f.inside + 2 → (other behind : List ℕ)
        → 40 ∷ 42 ∷ bytes ≡ other ++ behind → (c : IsComment other) → length c.inside ≤ length f.inside
    no_longer ended whole is len other behind e c =
        let theirs : List ℕ = c.inside ++ (42 ∷ 41 ∷ []) in
        let inner : bytes ≡ theirs ++ behind =
        same_tail 42 42 bytes (theirs ++ behind)
        (same_tail 40 40 (42 ∷ bytes) (42 ∷ (theirs ++ behind)) (e ∙ ap (λ (l : List ℕ). l ++ behind) c.parts)) in
        elim (cases_lt (length f.inside) (length c.inside)) [
          | inr le ↦ le
          | inl lt ↦
              let more = begins_with ended theirs f.behind behind (sym whole ∙ inner)
              (omega (arith, lt, len, length-append c.inside (42 ∷ 41 ∷ []))) in
              c.next f.inside more.0
              (more.1 ∙ ap (λ (l : List ℕ). l ++ more.0) is ∙ append_assoc f.inside (42 ∷ 41 ∷ []) more.0)
        ]

    longest : (front ended : List ℕ) → front ≡ 40 ∷ 42 ∷ ended → length ended ≡ length f.inside + 2
        → ((other behind : List ℕ) → 40 ∷ 42 ∷ bytes ≡ other ++ behind → (c : IsComment other)
        → length c.inside ≤ length f.inside)
        → IsLongest front (40 ∷ 42 ∷ bytes)
    longest front ended is len most other behind e t =
        elim (head 40 (42 ∷ bytes) other behind e t) [
          | blank k g ↦ absurd cc
          | comment k c ↦ omega (
            arith,
            ap length is,
            ap length c.parts,
            len,
            length-append c.inside (42 ∷ 41 ∷ []),
            most other behind e c,
          )
          | line k l ↦ absurd (omega (arith, k))
          | number k w d ↦ absurd cc
          | name k d ↦ absurd cc
          | sign k g ↦ omega (arith, ap length is, ap length g)
          | to k g ↦ absurd (omega (arith, k))
          | assign k g ↦ absurd (omega (arith, k))
        ]

line_stands : (at : ℕ) (bytes : List ℕ) → Found at (47 ∷ 47 ∷ bytes) None (2 + run is_line_byte bytes)
line_stands at bytes =
    let inside : List ℕ = take_while is_line_byte bytes in
    let rest : List ℕ = drop (run is_line_byte bytes) bytes in
    let parts : 47 ∷ 47 ∷ bytes ≡ (47 ∷ 47 ∷ inside) ++ rest =
    ap (λ (l : List ℕ). 47 ∷ 47 ∷ l) (run_splits is_line_byte bytes) in
    let is : IsLineComment (47 ∷ 47 ∷ inside) =
    record { inside = inside; parts = refl; line = run_passes is_line_byte bytes } in
    make at (47 ∷ 47 ∷ bytes) (47 ∷ 47 ∷ inside) rest None (2 + run is_line_byte bytes) parts (omega arith)
    (inr (inr is)) longest
    (not_faulty 47 (47 ∷ bytes) (47 ∷ 47 ∷ inside) rest parts (inl (inr (inr is))) refl
    (λ inside e. absurd (omega (arith, same_head 47 40 (47 ∷ bytes) (42 ∷ inside) e))))
  where
    longest : IsLongest (47 ∷ 47 ∷ take_while is_line_byte bytes) (47 ∷ 47 ∷ bytes)
    longest other behind e t =
        elim (head 47 (47 ∷ bytes) other behind e t) [
          | blank k g ↦ absurd cc
          | comment k c ↦ absurd (omega (arith, k))
          | line k l ↦
              let inner : bytes ≡ l.inside ++ behind = same_tail 47 47 bytes (l.inside ++ behind)
              (same_tail 47 47 (47 ∷ bytes) (47 ∷ (l.inside ++ behind))
              (e ∙ ap (λ (m : List ℕ). m ++ behind) l.parts)) in
              omega (
                arith,
                ap length l.parts,
                run_is is_line_byte bytes,
                all_in_run is_line_byte l.inside behind l.line,
                ap (prefix_len is_line_byte) inner,
              )
          | number k w d ↦ absurd cc
          | name k d ↦ absurd cc
          | sign k g ↦ absurd cc
          | to k g ↦ absurd (omega (arith, k))
          | assign k g ↦ absurd (omega (arith, k))
        ]

-- ---- delimiters

sign_stands : (at b : ℕ) (bytes : List ℕ) (t : Token) → mem b signs ≡ true → IsToken at (b ∷ []) t
    → (b ≡ 40 → (rest : List ℕ) → bytes ≡ 42 ∷ rest → ⊥)
    → (b ≡ 58 → (rest : List ℕ) → bytes ≡ 61 ∷ rest → ⊥) → Found at (b ∷ bytes) (Some t) 1
sign_stands at b bytes t s h star equals =
    make at (b ∷ bytes) (b ∷ []) bytes (Some t) 1 refl refl h longest
    (not_faulty b bytes (b ∷ []) bytes refl (inr (inr (at, t, h))) (member is_ascii_digit signs b s refl)
    (λ inside e n. star (same_head b 40 bytes (42 ∷ inside) e) inside (same_tail b 40 bytes (42 ∷ inside) e)))
  where
    longest : IsLongest (b ∷ []) (b ∷ bytes)
    longest other behind e t =
        elim (head b bytes other behind e t) [
          | blank k g ↦ absurd (both_ways (is_blank b) (member is_blank signs b s refl) k)
          | comment k c ↦ absurd (star k ((c.inside ++ (42 ∷ 41 ∷ [])) ++ behind)
              (next_bytes b 40 bytes other (42 ∷ (c.inside ++ (42 ∷ 41 ∷ []))) behind e c.parts))
          | line k l ↦ absurd (not_sign b 47 s refl k)
          | number k w d ↦ absurd (both_ways (is_ascii_digit b) (member is_ascii_digit signs b s refl) k)
          | name k d ↦ absurd (both_ways (is_name_start b) (member is_name_start signs b s refl) k)
          | sign k g ↦ omega (arith, ap length g)
          | to k g ↦ absurd (not_sign b 46 s refl k)
          | assign k g ↦ absurd (equals k behind (next_bytes b 58 bytes other (61 ∷ []) behind e g))
        ]

-- a delimiter of two bytes
pair_stands : (at a b : ℕ) (bytes : List ℕ) (t : Token) → is_ascii_digit a ≡ false → is_name_start a ≡ false
    → (a == 40) ≡ false → (a == 47) ≡ false → IsToken at (a ∷ b ∷ []) t → Found at (a ∷ b ∷ bytes) (Some t) 2
pair_stands at a b bytes t digit begins no40 no47 h =
    make at (a ∷ b ∷ bytes) (a ∷ b ∷ []) bytes (Some t) 2 refl refl h longest
    (not_faulty a (b ∷ bytes) (a ∷ b ∷ []) bytes refl (inr (inr (at, t, h))) digit
    (λ inside e. absurd (both_ways (a == 40) no40 (eq-eqb a 40 (same_head a 40 (b ∷ bytes) (42 ∷ inside) e)))))
  where
    longest : IsLongest (a ∷ b ∷ []) (a ∷ b ∷ bytes)
    longest other behind e t =
        elim (head a (b ∷ bytes) other behind e t) [
          | blank k g ↦ omega (arith, ap length g)
          | comment k c ↦ absurd (both_ways (a == 40) no40 (eq-eqb a 40 k))
          | line k l ↦ absurd (both_ways (a == 47) no47 (eq-eqb a 47 k))
          | number k w d ↦ absurd (both_ways (is_ascii_digit a) digit k)
          | name k d ↦ absurd (both_ways (is_name_start a) begins k)
          | sign k g ↦ omega (arith, ap length g)
          | to k g ↦ omega (arith, ap length g)
          | assign k g ↦ omega (arith, ap length g)
        ]

-- ---- bytes that begin nothing

bad_stands : (b : ℕ) (bytes : List ℕ) → is_blank b ≡ false → is_name_start b ≡ false → is_ascii_digit b ≡ false
    → mem b signs ≡ false
    → (b ≡ 47 → (rest : List ℕ) → bytes ≡ 47 ∷ rest → ⊥) → (b ≡ 46 → (rest : List ℕ) → bytes ≡ 46 ∷ rest → ⊥)
    → IsFaulty kinds.BadByte (b ∷ bytes)
bad_stands b bytes dark begins digit s slash point = (omega arith, nothing)
  where
    nothing : (front behind : List ℕ) → b ∷ bytes ≡ front ++ behind → IsTogether front → ⊥
    nothing front behind e t =
        elim (head b bytes front behind e t) [
          | blank k g ↦ both_ways (is_blank b) dark k
          | comment k c ↦ both_ways (mem b signs) s (ap (λ (n : ℕ). mem n signs) k)
          | line k l ↦ slash k (l.inside ++ behind) (next_bytes b 47 bytes front (47 ∷ l.inside) behind e l.parts)
          | number k w d ↦ both_ways (is_ascii_digit b) digit k
          | name k d ↦ both_ways (is_name_start b) begins k
          | sign k g ↦ both_ways (mem b signs) s k
          | to k g ↦ point k behind (next_bytes b 46 bytes front (46 ∷ []) behind e g)
          | assign k g ↦ both_ways (mem b signs) s (ap (λ (n : ℕ). mem n signs) k)
        ]

-- ---- the pieces

choose : (at : ℕ) (text : List ℕ) (c : Bool) (p q : Piece) → (c ≡ true → PieceStands at text p)
    → (c ≡ false → PieceStands at text q)
    → PieceStands at text (if c then p else q)
choose at text true p q f g = f refl
choose at text false p q f g = g refl

-- by whether a byte of the text is this one
by_byte : (at n b : ℕ) (text : ℕ → List ℕ) (p q : Piece) → PieceStands at (text n) p
    → ((b == n) ≡ false → PieceStands at (text b) q) → PieceStands at (text b) (if b == n then p else q)
by_byte at n b text p q same other =
    choose at (text b) (b == n) p q (λ e. subst (λ (m : ℕ). PieceStands at (text m) p) (sym (eqb-true b n e)) same)
    other

not_next : (b n : ℕ) (bytes : List ℕ) → (b == n) ≡ false → (rest : List ℕ) → b ∷ bytes ≡ n ∷ rest → ⊥
not_next b n bytes e rest k = both_ways (b == n) e (eq-eqb b n (same_head b n bytes rest k))

open_alone : (at : ℕ) (bytes : List ℕ) → ((rest : List ℕ) → bytes ≡ 42 ∷ rest → ⊥)
    → Found at (40 ∷ bytes) (Some (tok.Open at)) 1
open_alone at bytes star =
    sign_stands at 40 bytes (tok.Open at) refl (refl, refl) (λ k. star) (λ k. absurd (omega (arith, k)))

open_stands : (at : ℕ) (bytes : List ℕ) → PieceStands at (40 ∷ bytes) (open_piece at bytes)
unfolding open_piece
open_stands at [] = open_alone at [] (λ rest e. cc)
open_stands at (b ∷ bytes) =
    by_byte at 42 b (λ m. 40 ∷ m ∷ bytes) _ _ (commented (comment_end bytes) refl)
    (λ e. open_alone at (b ∷ bytes) (not_next b 42 bytes e))
  where
    commented : (o : Option ℕ) → comment_end bytes ≡ o → PieceStands at (40 ∷ 42 ∷ bytes) (comment_piece o)
    commented None e = (bytes, refl, comment_open bytes e)
    commented (Some n) e = comment_stands at bytes n (comment_ends bytes n e)

slash_stands : (at : ℕ) (bytes : List ℕ) → PieceStands at (47 ∷ bytes) (slash_piece bytes)
unfolding slash_piece
slash_stands at [] = bad_stands 47 [] refl refl refl refl (λ k rest e. cc) (λ k. absurd (omega (arith, k)))
slash_stands at (b ∷ bytes) =
    by_byte at 47 b (λ m. 47 ∷ m ∷ bytes) _ _ (line_stands at bytes)
    (λ e. bad_stands 47 (b ∷ bytes) refl refl refl refl (λ _. not_next b 47 bytes e) (λ k. absurd (omega (arith, k))))

point_stands : (at : ℕ) (bytes : List ℕ) → PieceStands at (46 ∷ bytes) (point_piece bytes)
unfolding point_piece
point_stands at [] = bad_stands 46 [] refl refl refl refl (λ k. absurd (omega (arith, k))) (λ k rest e. cc)
point_stands at (b ∷ bytes) =
    by_byte at 46 b (λ m. 46 ∷ m ∷ bytes) _ _ (pair_stands at 46 46 bytes tok.To refl refl refl refl refl)
    (λ e. bad_stands 46 (b ∷ bytes) refl refl refl refl (λ k. absurd (omega (arith, k))) (λ _. not_next b 46 bytes e))

colon_stands : (at : ℕ) (bytes : List ℕ) → PieceStands at (58 ∷ bytes) (colon_piece bytes)
unfolding colon_piece
colon_stands at [] = sign_stands at 58 [] tok.Colon refl refl (λ k. absurd (omega (arith, k))) (λ k rest e. cc)
colon_stands at (b ∷ bytes) =
    by_byte at 61 b (λ m. 58 ∷ m ∷ bytes) _ _ (pair_stands at 58 61 bytes tok.Assign refl refl refl refl refl)
    (λ e. sign_stands at 58 (b ∷ bytes) tok.Colon refl refl (λ k. absurd (omega (arith, k)))
    (λ _. not_next b 61 bytes e))

-- a delimiter of one byte with which nothing longer begins
single_stands : (at n : ℕ) (bytes : List ℕ) (t : Token) → mem n signs ≡ true → (n == 40) ≡ false → (n == 58) ≡ false
    → IsToken at (n ∷ []) t → Found at (n ∷ bytes) (Some t) 1
single_stands at n bytes t s no40 no58 h =
    sign_stands at n bytes t s h (λ k. absurd (both_ways (n == 40) no40 (eq-eqb n 40 k)))
    (λ k. absurd (both_ways (n == 58) no58 (eq-eqb n 58 k)))

delimiter_stands : (at b : ℕ) (bytes : List ℕ) → is_blank b ≡ false → is_name_start b ≡ false → is_ascii_digit b ≡ false
    → PieceStands at (b ∷ bytes) (delimiter_piece at b bytes)
unfolding delimiter_piece
delimiter_stands at b bytes dark begins digit =
    let text : ℕ → List ℕ = λ m. m ∷ bytes in
    by_byte at 40 b text _ _ (open_stands at bytes) (λ n40.
    by_byte at 47 b text _ _ (slash_stands at bytes) (λ n47.
    by_byte at 46 b text _ _ (point_stands at bytes) (λ n46.
    by_byte at 58 b text _ _ (colon_stands at bytes) (λ n58.
    by_byte at 59 b text _ _ (single_stands at 59 bytes tok.Semicolon refl refl refl refl) (λ n59.
    by_byte at 44 b text _ _ (single_stands at 44 bytes tok.Comma refl refl refl refl) (λ n44.
    by_byte at 41 b text _ _ (single_stands at 41 bytes tok.Close refl refl refl refl) (λ n41.
    by_byte at 43 b text _ _ (single_stands at 43 bytes tok.Plus refl refl refl refl) (λ n43.
    by_byte at 45 b text _ _ (single_stands at 45 bytes tok.Minus refl refl refl refl) (λ n45.
    bad_stands b bytes dark begins digit (rw (n40, n41, n58, n59, n44, n43, n45) refl)
    (λ k. absurd (both_ways (b == 47) n47 (eq-eqb b 47 k)))
    (λ k. absurd (both_ways (b == 46) n46 (eq-eqb b 46 k))))))))))))

pub piece_stands : (at b : ℕ) (bytes : List ℕ) → PieceStands at (b ∷ bytes) (piece_of at (b ∷ bytes))
piece_stands at b bytes =
    let text : List ℕ = b ∷ bytes in
    choose at text (is_blank b) _ _ (blank_stands at b bytes) (λ dark.
    choose at text (is_name_start b) _ _ (name_stands at b bytes dark) (λ begins.
    choose at text (is_ascii_digit b) _ _ (number_stands at b bytes dark begins)
    (delimiter_stands at b bytes dark begins)))
