-- The lines of records that are written.
use Rattle.std.proofs.Common.{◌≡◌, ℕ, zero, suc, ◌-◌, ◌/◌, ◌%◌, ◌<◌, ◌≤◌, ◌==◌, false, cond, List, [], ◌∷◌, ◌++◌}
use Rattle.std.proofs.Common.{length, take, Some, None, All, refl, sym, ap, ◌∙◌, arith, append_assoc, inl, inr}
use Rattle.std.specs.Prelude.{slice_index}
use Rattle.std.proofs.lemmas.Bool.{cases_eq}
use Rattle.std.proofs.lemmas.Bool.Decides.{nat_tests}
use Rattle.std.proofs.lemmas.List.Elements.{All-cons, All-nil}
use Rattle.std.proofs.lemmas.List.Splits.{slice_split_at, length-slice_split}
use Rattle.std.specs.Str.Lines.{lines, lines_of_parts, strip_carriage_return}
use Rattle.hex.specs.Hex.{IsBytes, encode_upper, encode_with, hex_digit_value, upper_digits}
use Rattle.hex.proofs.HexLemmas.{IsDigits-upper_digits, decode_of-encode_upper}
use Rattle.srecord.specs.{declared.fields.Kind.Kind, Lines.FitsKind, Lines.kind_of, Texts.IsRecord}
use Rattle.srecord.specs.Lines.{body_of, checksum_of, record_text}
use Rattle.srecord.proofs.LineLemmas.{first_ends, parts}

abbrev pub AreBytes : List ℕ → Type 0
AreBytes [] = Unit {0}
AreBytes (b ∷ bytes) = (b < 256) × AreBytes bytes

pub are_bytes_with : (bytes : List ℕ) (b : ℕ) → AreBytes bytes → b < 256 → AreBytes (bytes ++ b ∷ [])
are_bytes_with [] b are is = (is, tt)
are_bytes_with (x ∷ bytes) b are is = (are.0, are_bytes_with bytes b are.1 is)

pub are_bytes_all : (bytes : List ℕ) → IsBytes bytes → AreBytes bytes
are_bytes_all [] at = tt
are_bytes_all (b ∷ bytes) at = (at 0, are_bytes_all bytes (λ i. at (suc i)))

pub bytes_at : (bytes : List ℕ) → AreBytes bytes → IsBytes bytes
bytes_at [] are i = omega arith
bytes_at (b ∷ bytes) are zero = are.0
bytes_at (b ∷ bytes) are (suc i) = bytes_at bytes are.1 i

-- a record's bytes, with the checksum
abbrev pub record_bytes : ℕ → List ℕ → List ℕ
record_bytes at bytes = body_of at bytes ++ checksum_of (body_of at bytes) ∷ []

abbrev pub record_line : ℕ → ℕ → List ℕ → List ℕ
record_line digit at bytes = 0x53 ∷ digit ∷ encode_upper (record_bytes at bytes)

record_bytes_are : (at : ℕ) (bytes : List ℕ) → at < 65536 → length bytes ≤ 32 → AreBytes bytes
    → AreBytes (record_bytes at bytes)
record_bytes_are at bytes fits few are =
    are_bytes_with (body_of at bytes) _ (omega arith, (omega arith, (omega arith, are))) (omega arith)

is_other : (c v d : ℕ) → hex_digit_value c ≡ Some d → hex_digit_value v ≡ None → (c == v) ≡ false
is_other c v d digit none = elim (cases_eq c v) [
  | inl same ↦ (let bad = sym digit ∙ ap hex_digit_value same ∙ none in absurd (cc))
  | inr other ↦ grind (arith, nat_tests)
]

-- no byte is this one
abbrev pub HasNo : ℕ → List ℕ → Type 0
HasNo v text = All (λ c. (c == v) ≡ false) text

has_no_with : (v c : ℕ) (text : List ℕ) → (c == v) ≡ false → HasNo v text → HasNo v (c ∷ text)
has_no_with v c text other others = All-cons (λ c. (c == v) ≡ false) c text other others

high_other : (v b : ℕ) → b < 256 → hex_digit_value v ≡ None → (slice_index upper_digits (b / 16) == v) ≡ false
high_other v b byte none =
    is_other (slice_index upper_digits (b / 16)) v (b / 16) (IsDigits-upper_digits (b / 16) (omega (arith, byte))) none

low_other : (v b : ℕ) → hex_digit_value v ≡ None → (slice_index upper_digits (b % 16) == v) ≡ false
low_other v b none =
    is_other (slice_index upper_digits (b % 16)) v (b % 16) (IsDigits-upper_digits (b % 16) (omega arith)) none

digits_other : (v : ℕ) (bytes : List ℕ) → AreBytes bytes → hex_digit_value v ≡ None
    → HasNo v (encode_with upper_digits bytes)
unfolding encode_with
digits_other v [] are none = All-nil (λ c. (c == v) ≡ false)
digits_other v (b ∷ bytes) are none =
    let lows = has_no_with v (slice_index upper_digits (b % 16)) (encode_with upper_digits bytes) (low_other v b none)
    (digits_other v bytes are.1 none) in
    has_no_with v (slice_index upper_digits (b / 16))
    (slice_index upper_digits (b % 16) ∷ encode_with upper_digits bytes) (high_other v b are.0 none) lows

line_other : (v digit at : ℕ) (bytes : List ℕ) → AreBytes (record_bytes at bytes) → hex_digit_value v ≡ None
    → (0x53 == v) ≡ false
    → (digit == v) ≡ false → HasNo v (record_line digit at bytes)
line_other v digit at bytes are none letter kind =
    let digits = encode_upper (record_bytes at bytes) in
    has_no_with v 0x53 (digit ∷ digits) letter
    (has_no_with v digit digits kind (digits_other v (record_bytes at bytes) are none))

keeps_end : (line : List ℕ) → 0 < length line → All (λ c. (c == 13) ≡ false) line → strip_carriage_return line ≡ line
keeps_end line some other =
    ap (λ b. cond b (take (length line - 1) line) line) (other (length line - 1) 0 (omega arith))

pub lines_record : (digit at : ℕ) (bytes rest : List ℕ) → at < 65536 → length bytes ≤ 32 → AreBytes bytes
    → (digit == 10) ≡ false
    → (digit == 13) ≡ false → lines (record_text digit at bytes ++ rest) ≡ record_line digit at bytes ∷ lines rest
lines_record digit at bytes rest fits few are no_feed no_return =
    let all = record_bytes_are at bytes fits few are in
    let line = record_line digit at bytes in
    let text : record_text digit at bytes ++ rest ≡ line ++ 10 ∷ rest = append_assoc line (10 ∷ []) rest in
    let split : parts (line ++ 10 ∷ rest) ≡ line ∷ parts rest =
    slice_split_at (λ b. b == 10) line 10 rest (line_other 10 digit at bytes all refl refl no_feed) refl in
    ap lines text ∙ ap lines_of_parts split
    ∙ first_ends line (parts rest) (let some = length-slice_split (λ b. b == 10) rest in omega arith)
    ∙ ap (λ (l : List ℕ). l ∷ lines rest)
    (keeps_end line (omega arith) (line_other 13 digit at bytes all refl refl no_return))

pub is_record : (digit : ℕ) (kind : Kind) (at : ℕ) (bytes : List ℕ) → kind_of digit ≡ Some kind → at < 65536
    → length bytes ≤ 32 → AreBytes bytes
    → FitsKind kind at bytes → IsRecord (record_line digit at bytes) kind at bytes
is_record digit kind at bytes kind_is fits few are fit = record {
  bytes = record_bytes at bytes;
  opens = record {
    digit = digit;
    digits = encode_upper (record_bytes at bytes);
    parts = refl;
    kind_is =
        kind_is;
    bytes_are =
        decode_of-encode_upper (record_bytes at bytes)
        (bytes_at (record_bytes at bytes) (record_bytes_are at bytes fits few are));
  };
  fields = record { bytes_are = refl; fits = fit };
}
