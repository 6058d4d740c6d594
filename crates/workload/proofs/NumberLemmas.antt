-- The texts of numbers are read as these numbers.
use Rattle.std.proofs.Common.{arith, ◌≡◌, ◌<◌, ◌≤◌, ◌+◌, ◌-◌, ◌*◌, ◌/◌, ◌%◌, ◌^◌, ℕ, zero, suc, Bool, true, false, List}
use Rattle.std.proofs.Common.{[], ◌∷◌, ◌++◌, length, take, drop, refl, ap, ◌∙◌, Result, Ok, Err, pos, ℤ}
use Rattle.std.proofs.Common.{Some, None}
use Rattle.std.specs.Prelude.{◌&&◌, ◌||◌, ◌==◌, not, nat_lt, nat_le, if◌then◌else◌, fold, slice_index}
use Rattle.std.specs.Fmt.{decimal as digits}
use Rattle.std.specs.List.{list_all, position_or_len, before_first, after_first}
use Rattle.std.specs.Str.Parse.{AllDigits, digits_value_after}
use Rattle.std.specs.Char.{digit_value}
use Rattle.std.proofs.lemmas.Bool.{and_parts}
use Rattle.std.proofs.lemmas.Bool.Decides.{nat_tests}
use Rattle.std.proofs.lemmas.Fmt.{decimal_is_IsNumeral, length-decimal-le}
use Rattle.std.proofs.lemmas.List.Sums.{fold-append}
use Rattle.std.proofs.lemmas.Str.{digit_value_digit}
use Rattle.std.proofs.lemmas.Str.Parse.{digit_from_value}
use Rattle.std.proofs.Math.Seq.{drop-append-add, take-append_seam}
use Rattle.fz_num.specs.Decimals.{are_digits, decimal, four_places, has_four_places, is_digit, is_negative}
use Rattle.fz_num.specs.Decimals.{is_numeral, is_point, magnitude, next_number, number, signed, without_sign}
use Rattle.fz_num.specs.declared.{dec.Dec.Dec, dec.DecFault.DecFault}
use Rattle.fz_num.specs.declared.dec.DecFault.TheVariants.{Shape, Places, Large}
use Rattle.hex.specs.Hex.{IsBytes, decode_sized, encode_upper, encode_with, upper_digits}
use Rattle.hex.proofs.HexLemmas.{decode_of-encode_upper, decode_sized-twice, length-encode_with}
use Rattle.interrupt_plan.specs.Rows.{byte_of, count_of, the_write, word_of, write_of}
use Rattle.workload.specs.Texts.{decimal_text, last_digit}
use Rattle.workload.proofs.RowLemmas.{are_plain, is_plain}

-- ---- digits

both : (a b : Bool) → a ≡ true → b ≡ true → (a && b) ≡ true
both true b h k = k
both false b h k = h

digit : (c : ℕ) → 48 ≤ c → c ≤ 57 → is_digit c ≡ true
digit c low high = grind (arith, nat_tests)

all_digits : (ds : List ℕ) → AllDigits 10 ds → list_all is_digit ds ≡ true
all_digits [] d = refl
all_digits (c ∷ cs) d =
    let range = digit_from_value c d.0 in
    both (is_digit c) (list_all is_digit cs) (digit c range.0 range.1) (all_digits cs d.1)

value_after : (n : ℕ) (ds : List ℕ) → AllDigits 10 ds → fold next_number n ds ≡ digits_value_after 10 n ds
value_after n [] d = refl
value_after n (c ∷ cs) d =
    let range = digit_from_value c d.0 in
    let same : 10 * n + (c - 48) ≡ n * 10 + digit_value c = omega (arith, range.0, digit_value_digit c range) in
    ap (λ (m : ℕ). fold next_number m cs) same ∙ value_after (n * 10 + digit_value c) cs d.1

pub digits_are : (n : ℕ) → n < 2 ^ 64 → are_digits (digits n) ≡ true
digits_are n small =
    let numeral = decimal_is_IsNumeral n small in
    both (nat_lt 0 (length (digits n))) (list_all is_digit (digits n)) (let h = numeral.0.0 in grind (arith, nat_tests))
    (all_digits (digits n) numeral.0.1)

pub number-digits : (n : ℕ) → n < 2 ^ 64 → number (digits n) ≡ n
number-digits n small =
    let numeral = decimal_is_IsNumeral n small in value_after 0 (digits n) numeral.0.1 ∙ numeral.1

-- ---- decimals

-- what is answered for tests and a size
abbrev judged : Bool → Bool → Bool → ℤ → Result Dec DecFault
judged numeral places large size =
    if not numeral then Err Shape
    else (if not places then Err Places
    else (if large then Err Large
    else Ok (record { 0 = size })))

-- a text that has no sign
record IsUnsigned (bytes : List ℕ) : Type 0 where
  same : without_sign bytes ≡ bytes
  positive : is_negative bytes ≡ false

unsigned : (c : ℕ) (cs : List ℕ) → is_digit c ≡ true → IsUnsigned (c ∷ cs)
unsigned c cs h =
    let plus : (c == 43) ≡ false = grind (arith, nat_tests, h) in
    let minus : (c == 45) ≡ false = grind (arith, nat_tests, h) in
    record { same = rw (plus, minus) refl; positive = minus }

decided : (bytes : List ℕ) (n : ℕ) → IsUnsigned bytes → is_numeral bytes ≡ true → has_four_places bytes ≡ true
    → magnitude bytes ≡ n → n ≤ 1000000000 → decimal bytes ≡ Ok (record { 0 = pos n })
decided bytes n u numeral places size small =
    let large : nat_lt 1000000000 n ≡ false = grind (arith, nat_tests) in
    let of : List ℕ → Result Dec DecFault = λ (cs : List ℕ).
    judged (is_numeral cs) (has_four_places cs) (nat_lt 1000000000 (magnitude cs))
    (signed (is_negative bytes) (magnitude cs)) in
    let bare : decimal bytes ≡ of bytes = ap of u.same in
    bare ∙ (λ i. judged (numeral i) (places i) (nat_lt 1000000000 (size i)) (signed (u.positive i) (size i)))
    ∙ ap (λ (l : Bool). judged true true l (pos n)) large

-- ---- the point

other_than_point : (c : ℕ) → is_digit c ≡ true → is_point c ≡ false
other_than_point c h = grind (arith, nat_tests, h)

point_behind : (ds ps : List ℕ) → list_all is_digit ds ≡ true → position_or_len is_point (ds ++ (46 ∷ ps)) ≡ length ds
point_behind [] ps h = refl
point_behind (c ∷ cs) ps h =
    let parts = and_parts (is_digit c) (list_all is_digit cs) h in
    rw (other_than_point c parts.0) (omega (arith, point_behind cs ps parts.1))

-- a text of digits, and places behind a point or none
record Parts (text units places : List ℕ) : Type 0 where
  before : before_first is_point text ≡ units
  after : after_first is_point text ≡ places

-- what they come to
parts_decimal : (text units places : List ℕ) (n : ℕ) → IsUnsigned text → Parts text units places
    → is_numeral text ≡ true → list_all (λ (c : ℕ). c == 48) (drop 4 places) ≡ true
    → number (units ++ four_places places) ≡ n → n ≤ 1000000000 → decimal text ≡ Ok (record { 0 = pos n })
parts_decimal text units places n u parts numeral zeros size small =
    decided text n u numeral (ap (λ (ps : List ℕ). list_all (λ (c : ℕ). c == 48) (drop 4 ps)) parts.after ∙ zeros)
    ((λ i. number (parts.before i ++ four_places (parts.after i))) ∙ size) small

unsigned_text : (ds tail : List ℕ) → are_digits ds ≡ true → IsUnsigned (ds ++ tail)
unsigned_text [] tail h = absurd cc
unsigned_text (c ∷ cs) tail h =
    let all = (and_parts (nat_lt 0 (length (c ∷ cs))) (list_all is_digit (c ∷ cs)) h).1 in
    unsigned c (cs ++ tail) (and_parts (is_digit c) (list_all is_digit cs) all).0

either : (a b : Bool) → b ≡ true → (a || b) ≡ true
either true b h = refl
either false b h = h

four_digits : (p q r s : ℕ) → p < 10 → q < 10 → r < 10 → s < 10
    → are_digits ((48 + p) ∷ (48 + q) ∷ (48 + r) ∷ (48 + s) ∷ []) ≡ true
four_digits p q r s hp hq hr hs =
    let d : (x : ℕ) → x < 10 → is_digit (48 + x) ≡ true = λ x h. digit (48 + x) (omega arith) (omega arith) in
    both _ _ (d p hp) (both _ _ (d q hq) (both _ _ (d r hr) (both _ _ (d s hs) refl)))

pub decimal-decimal_text : (n : ℕ) → n ≤ 1000000000 → decimal (decimal_text n) ≡ Ok (record { 0 = pos n })
decimal-decimal_text n small =
    let units = digits (n / 10000) in
    let p = n / 1000 % 10 in
    let q = n / 100 % 10 in
    let r = n / 10 % 10 in
    let s = n % 10 in
    let places : List ℕ = (48 + p) ∷ (48 + q) ∷ (48 + r) ∷ (48 + s) ∷ [] in
    let are = digits_are (n / 10000) (omega arith) in
    let all = (and_parts (nat_lt 0 (length units)) (list_all is_digit units) are).1 in
    let at = point_behind units places all in
    let parts : Parts (decimal_text n) units places = record {
      before = ap (λ (k : ℕ). take k (decimal_text n)) at ∙ take-append_seam units (46 ∷ places);
      after = ap (λ (k : ℕ). drop (k + 1) (decimal_text n)) at ∙ drop-append-add units (46 ∷ places) 1;
    } in
    let numeral : is_numeral (decimal_text n) ≡ true =
    both _ _ (ap are_digits parts.before ∙ are)
    (either _ _ (ap are_digits parts.after
    ∙ four_digits p q r s (omega arith) (omega arith) (omega arith) (omega arith))) in
    let whole = number-digits (n / 10000) (omega arith) in
    let size : number (units ++ places) ≡ n =
    fold-append next_number 0 units places ∙ (omega (arith, whole)) in
    parts_decimal (decimal_text n) units places n (unsigned_text units (46 ∷ places) are) parts numeral refl size small

-- ---- the fields of a plan

pub count_of-digits : (n : ℕ) → n < 1000000000 → count_of (digits n) ≡ Some n
count_of-digits n small =
    let few = length-decimal-le 9 n (omega arith) (omega arith) (omega arith) in
    let short : nat_le (length (digits n)) 9 ≡ true = grind (arith, nat_tests, few) in
    (λ i. if short i && digits_are n (omega arith) i then Some (number-digits n (omega arith) i) else None)

bytes_of_one : (b : ℕ) → b < 256 → IsBytes (b ∷ [])
bytes_of_one b h zero = h
bytes_of_one b h (suc k) = omega arith

bytes_of_two : (h l : ℕ) → h < 256 → l < 256 → IsBytes (h ∷ l ∷ [])
bytes_of_two h l a b zero = a
bytes_of_two h l a b (suc zero) = b
bytes_of_two h l a b (suc (suc k)) = omega arith

read_back : (bytes : List ℕ) → IsBytes bytes → decode_sized (encode_upper bytes) (length bytes) ≡ Ok bytes
read_back bytes h =
    let len = length-encode_with upper_digits bytes in
    decode_sized-twice (encode_upper bytes) (length bytes) len ∙ decode_of-encode_upper bytes h

pub write_of-encoded : (at value : ℕ) → at < 65536 → value < 256
    → write_of (encode_upper (at / 256 ∷ at % 256 ∷ [])) (encode_upper (value ∷ []))
    ≡ Some (record { at = at; value = value })
write_of-encoded at value word byte =
    let address =
    read_back (at / 256 ∷ at % 256 ∷ []) (bytes_of_two (at / 256) (at % 256) (omega arith) (omega arith)) in
    let written = read_back (value ∷ []) (bytes_of_one value byte) in
    let whole : at / 256 * 256 + at % 256 ≡ at = omega arith in
    (λ i. the_write (word_of (address i)) (byte_of (written i)))
    ∙ ap (λ (a : ℕ). Some (record { at = a; value = value })) whole

-- ---- no field needs quotes

plain_append : (cs ds : List ℕ) → are_plain cs ≡ true → are_plain ds ≡ true → are_plain (cs ++ ds) ≡ true
plain_append [] ds h k = k
plain_append (c ∷ cs) ds h k =
    let parts = and_parts _ (are_plain cs) h in both _ _ parts.0 (plain_append cs ds parts.1 k)

plain_all : (ds : List ℕ) → list_all is_digit ds ≡ true → are_plain ds ≡ true
plain_all [] h = refl
plain_all (c ∷ cs) h =
    let parts = and_parts (is_digit c) (list_all is_digit cs) h in
    let digit = parts.0 in
    both _ _ (grind (arith, nat_tests, digit)) (plain_all cs parts.1)

pub digits_are_plain : (n : ℕ) → n < 2 ^ 32 → are_plain (digits n) ≡ true
digits_are_plain n small =
    plain_all (digits n) (and_parts (nat_lt 0 (length (digits n))) (list_all is_digit (digits n))
    (digits_are n (omega arith))).1

pub decimal_is_plain : (n : ℕ) → n < 2 ^ 32 → are_plain (decimal_text n) ≡ true
decimal_is_plain n small =
    let units = digits (n / 10000) in
    let places = last_digit (n / 1000) ∷ last_digit (n / 100) ∷ last_digit (n / 10) ∷ last_digit n ∷ [] in
    plain_append units (46 ∷ places) (digits_are_plain (n / 10000) (omega arith))
    (plain_all places (and_parts (nat_lt 0 (length places)) (list_all is_digit places)
    (four_digits (n / 1000 % 10) (n / 100 % 10) (n / 10 % 10) (n % 10) (omega arith) (omega arith) (omega arith)
    (omega arith))).1)

plain_at : (cs : List ℕ) (k : ℕ) → are_plain cs ≡ true → k < length cs → is_plain (slice_index cs k) ≡ true
plain_at [] k h lt = absurd (omega arith)
plain_at (c ∷ cs) zero h lt = (and_parts (is_plain c) (are_plain cs) h).0
plain_at (c ∷ cs) (suc k) h lt = plain_at cs k (and_parts (is_plain c) (are_plain cs) h).1 (omega arith)

encoded_is_plain : (bytes : List ℕ) → IsBytes bytes → are_plain (encode_upper bytes) ≡ true
unfolding encode_with
encoded_is_plain [] h = refl
encoded_is_plain (b ∷ bytes) h =
    let small : b < 256 = h zero in
    both _ _ (plain_at upper_digits (b / 16) refl (omega (arith, small)))
    (both _ _ (plain_at upper_digits (b % 16) refl (omega arith)) (encoded_is_plain bytes (λ i. h (suc i))))

pub encoded_byte_is_plain : (b : ℕ) → b < 256 → are_plain (encode_upper (b ∷ [])) ≡ true
encoded_byte_is_plain b h = encoded_is_plain (b ∷ []) (bytes_of_one b h)

pub encoded_word_is_plain : (h l : ℕ) → h < 256 → l < 256 → are_plain (encode_upper (h ∷ l ∷ [])) ≡ true
encoded_word_is_plain h l a b = encoded_is_plain (h ∷ l ∷ []) (bytes_of_two h l a b)
