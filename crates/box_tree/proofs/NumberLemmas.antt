-- The number at the front of a text.
use Rattle.std.proofs.Common.{◌≡◌, ◌≢◌, ◌≤◌, ◌<◌, ◌+◌, ℕ, suc, Bool, true, false, cond, List, [], ◌∷◌, ◌++◌, length}
use Rattle.std.proofs.Common.{take, drop, get_or, min, refl, sym, ◌∙◌, ap, subst, arith, rules, decimal, inl, inr}
use Rattle.std.proofs.Common.{take-append-drop, zero}
use Rattle.std.specs.Prelude.{not, ◌&&◌, ◌⊎◌}
use Rattle.std.specs.Char.{is_ascii_digit}
use Rattle.std.specs.Str.{all_ascii_digits}
use Rattle.std.proofs.lemmas.Bool.Decides.{nat_tests}
use Rattle.std.proofs.Math.Seq.{take-append_seam, drop-append_seam}
use Rattle.std.proofs.lemmas.Str.Parse.{IsNumeralModel, numerals_by_fold, FoldsDigits, tells_all_ascii_digits}
use Rattle.std.proofs.lemmas.Fmt.{decimal-digits_value, digits_decimal, digits_value-decimal, first_decimal}
use Rattle.std.proofs.lemmas.Fmt.{decimal_nonempty, decimal_digit}
use Rattle.box_tree.specs.Numbers.{digits_len_of, EndsNumber, number_behind, is_plain_numeral}

abbrev AreDigits : List ℕ → Type 0
AreDigits ds = all_ascii_digits ds ≡ true

folds : FoldsDigits number_behind
folds = search rules

own : IsNumeralModel AreDigits (number_behind 0)
own = numerals_by_fold AreDigits tells_all_ascii_digits number_behind folds

both_true : (a b : Bool) → (a && b) ≡ true → (a ≡ true) × (b ≡ true)
both_true true b h = (refl, h)
both_true false b h = cc

len_step : (b : Bool) (n m : ℕ) → b ≡ true → n ≡ m → cond (not (not b)) (1 + n) 0 ≡ suc m
len_step b n m is same = rw (is, same) (omega arith)

len_stop : (b : Bool) (n : ℕ) → b ≡ false → cond (not (not b)) (1 + n) 0 ≡ 0
len_stop b n is = rw is refl

digits_len-append : (ds rest : List ℕ) → AreDigits ds → EndsNumber rest → digits_len_of (ds ++ rest) ≡ length ds
digits_len-append [] [] digits ends = refl
digits_len-append [] (c ∷ cs) digits ends = len_stop (is_ascii_digit c) (digits_len_of cs) ends
digits_len-append (d ∷ ds) rest digits ends =
    let parts = both_true (is_ascii_digit d) (all_ascii_digits ds) digits in
    len_step (is_ascii_digit d) (digits_len_of (ds ++ rest)) (length ds) parts.0
    (digits_len-append ds rest parts.1 ends)

abbrev pub front : List ℕ → List ℕ
front text = take (digits_len_of text) text

abbrev pub behind : List ℕ → List ℕ
behind text = drop (digits_len_of text) text

front_at : (b : Bool) (c n : ℕ) (cs : List ℕ) → is_ascii_digit c ≡ b → AreDigits (take n cs)
    → AreDigits (take (cond (not (not b)) (1 + n) 0) (c ∷ cs))
front_at true c n cs is rest = let e : 1 + n ≡ suc n = omega arith in rw (e, is) rest
front_at false c n cs is rest = refl

front_is_digits : (text : List ℕ) → AreDigits (front text)
front_is_digits [] = refl
front_is_digits (c ∷ cs) = front_at (is_ascii_digit c) c (digits_len_of cs) cs refl (front_is_digits cs)

ends_at : (b : Bool) (c n : ℕ) (cs : List ℕ) → is_ascii_digit c ≡ b → EndsNumber (drop n cs)
    → EndsNumber (drop (cond (not (not b)) (1 + n) 0) (c ∷ cs))
ends_at true c n cs is rest = let e : 1 + n ≡ suc n = omega arith in rw e rest
ends_at false c n cs is rest = is

pub behind_ends : (text : List ℕ) → EndsNumber (behind text)
behind_ends [] = tt
behind_ends (c ∷ cs) = ends_at (is_ascii_digit c) c (digits_len_of cs) cs refl (behind_ends cs)

-- ---- plain numerals are the decimals

plain_zero : (ds : List ℕ) → is_plain_numeral ds ≡ true → (0 < length ds) × (get_or ds 0 0 ≡ 48 → length ds ≡ 1)
plain_zero [] plain = cc
plain_zero (d ∷ []) plain = (omega arith, λ _. refl)
plain_zero (d ∷ e ∷ ds) plain = (omega arith, λ zero_first. absurd (grind (arith, nat_tests)))

zero_plain : (ds : List ℕ) → 0 < length ds → (get_or ds 0 0 ≡ 48 → length ds ≡ 1) → is_plain_numeral ds ≡ true
zero_plain [] some one = absurd (omega arith)
zero_plain (d ∷ []) some one = refl
zero_plain (d ∷ e ∷ ds) some one = let no : d ≢ 48 = λ is. absurd (omega (arith, one is)) in grind (arith, nat_tests)

decimal_plain : (n : ℕ) → n ≤ 1000000 → is_plain_numeral (decimal n) ≡ true
decimal_plain n small = zero_plain (decimal n) (decimal_nonempty n (omega arith)) (one_zero n small)
  where
    one_zero : (n : ℕ) → n ≤ 1000000 → get_or (decimal n) 0 0 ≡ 48 → length (decimal n) ≡ 1
    one_zero zero small is = ap length (decimal_digit 0 (omega arith))
    one_zero (suc n) small is = absurd (omega (arith, is, first_decimal (suc n) (omega arith) (omega arith)))

plain_decimal : (ds : List ℕ) → AreDigits ds → is_plain_numeral ds ≡ true → number_behind 0 ds ≤ 1000000
    → decimal (number_behind 0 ds) ≡ ds
plain_decimal ds digits plain small = let p = plain_zero ds plain in
    decimal-digits_value own ds digits p.0 p.1 (omega arith)

-- ---- the number at the front

pub number_found : (text : List ℕ) → is_plain_numeral (front text) ≡ true → number_behind 0 (front text) ≤ 1000000
    → text ≡ decimal (number_behind 0 (front text)) ++ behind text
number_found text plain small =
    sym (ap (λ (ds : List ℕ). ds ++ behind text) (plain_decimal (front text) (front_is_digits text) plain small)
    ∙ take-append-drop (digits_len_of text) text)

decimal_len : (n : ℕ) (rest : List ℕ) → n ≤ 1000000 → EndsNumber rest
    → digits_len_of (decimal n ++ rest) ≡ length (decimal n)
decimal_len n rest small ends = digits_len-append (decimal n) rest (digits_decimal own n (omega arith)) ends

pub front_decimal : (n : ℕ) (rest : List ℕ) → n ≤ 1000000 → EndsNumber rest → front (decimal n ++ rest) ≡ decimal n
front_decimal n rest small ends = ap (λ (k : ℕ). take k (decimal n ++ rest)) (decimal_len n rest small ends)
    ∙ take-append_seam (decimal n) rest

pub behind_decimal : (n : ℕ) (rest : List ℕ) → n ≤ 1000000 → EndsNumber rest → behind (decimal n ++ rest) ≡ rest
behind_decimal n rest small ends = ap (λ (k : ℕ). drop k (decimal n ++ rest)) (decimal_len n rest small ends)
    ∙ drop-append_seam (decimal n) rest

pub number_plain : (text : List ℕ) (n : ℕ) (rest : List ℕ) → n ≤ 1000000 → EndsNumber rest → text ≡ decimal n ++ rest
    → is_plain_numeral (front text) ≡ true
number_plain text n rest small ends is = ap (λ (t : List ℕ). is_plain_numeral (front t)) is
    ∙ ap is_plain_numeral (front_decimal n rest small ends) ∙ decimal_plain n small

pub number_value : (text : List ℕ) (n : ℕ) (rest : List ℕ) → n ≤ 1000000 → EndsNumber rest → text ≡ decimal n ++ rest
    → number_behind 0 (front text) ≡ n
number_value text n rest small ends is = ap (λ (t : List ℕ). number_behind 0 (front t)) is
    ∙ ap (number_behind 0) (front_decimal n rest small ends) ∙ digits_value-decimal own n (omega arith)

-- one text begins with one number
pub one_number : (m n : ℕ) (a b : List ℕ) → m ≤ 1000000 → n ≤ 1000000 → EndsNumber a → EndsNumber b
    → decimal m ++ a ≡ decimal n ++ b → (m ≡ n) × (a ≡ b)
one_number m n a b m_small n_small a_ends b_ends same = (
  sym (number_value (decimal m ++ a) m a m_small a_ends refl) ∙ number_value (decimal m ++ a) n b n_small b_ends same,
  sym (behind_decimal m a m_small a_ends) ∙ ap behind same ∙ behind_decimal n b n_small b_ends,
)

-- what the reader of a number has: the digits at the front, what follows, and the capped value of the digits
pub number_read : (text digits rest : List ℕ) (value : ℕ) → digits ≡ front text → rest ≡ behind text
    → value ≡ min (number_behind 0 digits) 1000001 → is_plain_numeral digits ≡ true → value ≤ 1000000
    → (value ≤ 1000000) × EndsNumber rest × (text ≡ decimal value ++ rest)
number_read text digits rest value digits_are rest_is value_is plain small =
    let small_all : number_behind 0 digits ≤ 1000000 = omega arith in
    let exact : number_behind 0 digits ≡ value = omega arith in (
      small,
      subst EndsNumber (sym rest_is) (behind_ends text),
      number_found text (ap is_plain_numeral (sym digits_are) ∙ plain)
          (subst (λ (ds : List ℕ). number_behind 0 ds ≤ 1000000) digits_are small_all)
          ∙ ap (λ (ds : List ℕ). decimal (number_behind 0 ds) ++ behind text) (sym digits_are)
          ∙ ap (λ (n : ℕ). decimal n ++ behind text) exact ∙ ap (λ (r : List ℕ). decimal value ++ r) (sym rest_is),
    )

pub no_number : (text digits : List ℕ) (value : ℕ) → digits ≡ front text → value ≡ min (number_behind 0 digits) 1000001
    → ((is_plain_numeral digits ≡ true) × (1000000 < value)) ⊎ (is_plain_numeral digits ≡ false)
    → (n : ℕ) (rest : List ℕ) → n ≤ 1000000 → EndsNumber rest → text ≡ decimal n ++ rest → ⊥
no_number text digits value digits_are value_is (inl large) n rest small ends is =
    omega (arith, ap (number_behind 0) digits_are, number_value text n rest small ends is, large.1)
no_number text digits value digits_are value_is (inr none) n rest small ends is =
    let bad : false ≡ true = sym none ∙ ap is_plain_numeral digits_are ∙ number_plain text n rest small ends is in cc
