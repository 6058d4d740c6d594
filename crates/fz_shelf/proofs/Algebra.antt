-- Texts in which no line ends, and texts that are put into a sink.
pub use Rattle.fz_shelf.proofs.Taking.{puts_behind, puts_no_more}
use Rattle.std.proofs.Common.{◌≡◌, ◌<◌, ◌%◌, ◌/◌, ◌==◌, ℕ, zero, suc, List, [], ◌∷◌, ◌++◌, Bool, false, true}
use Rattle.std.proofs.Common.{refl, ◌∙◌, ap₂, arith}
use Rattle.std.specs.Prelude.{decimal, if◌then◌else◌, slice_index, ◌&&◌}
use Rattle.std.specs.Fmt.{digit_glyph, digits, digits_onto}
use Rattle.std.proofs.lemmas.List.Folds.{list_all-append}
use Rattle.hex.specs.Hex.{encode_upper, encode_with, upper_digits}
use Rattle.fz_shelf.specs.{Lines.has_no_end, Parts.address_digits, Parts.byte_digits}

pub bare-append : (a b : List ℕ) → has_no_end a ≡ true → has_no_end b ≡ true → has_no_end (a ++ b) ≡ true
bare-append a b h k = list_all-append _ a b ∙ ap₂ (λ x y. x && y) h k

-- what lies above the end does not end a line
bare-above : (byte : ℕ) (rest : List ℕ) → 10 < byte → has_no_end rest ≡ true → has_no_end (byte ∷ rest) ≡ true
bare-above byte rest above h = grind arith

bare-if : (test : Bool) (a b : List ℕ) → has_no_end a ≡ true → has_no_end b ≡ true
    → has_no_end (if test then a else b) ≡ true
bare-if false a b h k = k
bare-if true a b h k = h

glyph-above : (d : ℕ) → 10 < digit_glyph false d
glyph-above d = grind arith

bare-onto : (k n : ℕ) (rest : List ℕ) → has_no_end rest ≡ true → has_no_end (digits_onto k 10 false n rest) ≡ true
bare-onto zero n rest h = h
bare-onto (suc k) n rest h =
    let glyph = digit_glyph false (n % 10) ∷ rest in
    let one : has_no_end glyph ≡ true = bare-above (digit_glyph false (n % 10)) rest (glyph-above (n % 10)) h in
    bare-if (n / 10 == 0) glyph (digits_onto k 10 false (n / 10) glyph) one (bare-onto k (n / 10) glyph one)

pub bare-decimal : (n : ℕ) → has_no_end (decimal n) ≡ true
unfolding digits
bare-decimal n = bare-onto 64 n [] refl

-- ---- hexadecimal digits

bare-at : (bytes rest : List ℕ) (i : ℕ) → has_no_end bytes ≡ true → has_no_end rest ≡ true
    → has_no_end (slice_index bytes i ∷ rest) ≡ true
bare-at [] rest i h k = k
bare-at (b ∷ bytes) rest zero h k = grind arith
bare-at (b ∷ bytes) rest (suc i) h k = bare-at bytes rest i (grind arith) k

bare-digits : (byte : ℕ) (rest : List ℕ) → has_no_end rest ≡ true
    → has_no_end (slice_index upper_digits (byte / 16) ∷ slice_index upper_digits (byte % 16) ∷ rest) ≡ true
bare-digits byte rest h = bare-at upper_digits (slice_index upper_digits (byte % 16) ∷ rest) (byte / 16) refl
    (bare-at upper_digits rest (byte % 16) refl h)

pub bare-byte : (byte : ℕ) → has_no_end (byte_digits byte) ≡ true
unfolding encode_with
bare-byte byte = bare-digits byte [] refl

pub bare-address : (address : ℕ) → has_no_end (address_digits address) ≡ true
unfolding encode_with
bare-address address = bare-digits (address / 256) (encode_upper (address % 256 ∷ []))
    (bare-digits (address % 256) [] refl)
