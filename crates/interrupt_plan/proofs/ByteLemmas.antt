-- What is spelled by two hexadecimal digits is a byte.
use Rattle.std.proofs.Common.{◌≡◌, ◌≤◌, ◌<◌, ◌+◌, ◌*◌, ◌-◌, ◌^◌, ℕ, Bool, true, false, List, [], ◌∷◌, length, refl, sym}
use Rattle.std.proofs.Common.{ap, arith}
use Rattle.std.specs.Prelude.{All, Option, Some, None, Result, Ok, Err, ◌%◌, ◌/◌, ◌==◌, ◌&&◌, nat_le, if◌then◌else◌}
use Rattle.std.specs.Prelude.{slice_index}
use Rattle.std.proofs.lemmas.Bool.Decides.{nat_tests}
use Rattle.std.proofs.lemmas.List.Elements.{All-cons, All-nil}
use Rattle.hex.specs.Hex.{hex_digit_value, digit_or_error, value_at, pair_value, decode_pairs, decode_sized, ◌>>=◌}
use Rattle.hex.specs.declared.error.FromHexError.{FromHexError}
use Rattle.hex.specs.declared.error.FromHexError.TheVariants.{OddLength, InvalidStringLength}
use Rattle.cpu12_isa.specs.declared.instr.Write.{Write}
use Rattle.trace_io.specs.FirstRows.{Fields}
use Rattle.interrupt_plan.specs.Rows.{word_of, byte_of, the_write, write_of, with_write, writes_of}

-- a digit
digit_small : (c v : ℕ) → hex_digit_value c ≡ Some v → v ≤ 15
digit_small c v e = at (nat_le 65 c && nat_le c 70) (nat_le 97 c && nat_le c 102)
    (nat_le 48 c && nat_le c 57) refl refl refl e
  where
    at : (x y z : Bool) → (nat_le 65 c && nat_le c 70) ≡ x → (nat_le 97 c && nat_le c 102) ≡ y
        → (nat_le 48 c && nat_le c 57) ≡ z
        → (if x then Some (c - 55) else if y then Some (c - 87) else if z then Some (c - 48) else None) ≡ Some v
        → v ≤ 15
    at true y z ex ey ez e = let s : c - 55 ≡ v = cc in let h : c ≤ 70 = grind (arith, nat_tests) in omega (arith, s, h)
    at false true z ex ey ez e = let s : c - 87 ≡ v = cc in let h : c ≤ 102 = grind (arith, nat_tests) in
        omega (arith, s, h)
    at false false true ex ey ez e = let s : c - 48 ≡ v = cc in let h : c ≤ 57 = grind (arith, nat_tests) in
        omega (arith, s, h)
    at false false false ex ey ez e = cc

value_small : (c i v : ℕ) (o : Option ℕ) → hex_digit_value c ≡ o → digit_or_error c i o ≡ Ok v → v ≤ 15
value_small c i v (Some x) is e = let same : x ≡ v = cc in omega (arith, same, digit_small c x is)
value_small c i v None is e = cc

-- two digits
pair_small : (high low i v : ℕ) → pair_value high low i ≡ Ok v → v < 256
pair_small high low i v e = first (value_at high i) refl (value_at low (i + 1)) refl e
  where
    first : (x : Result ℕ FromHexError) → value_at high i ≡ x → (y : Result ℕ FromHexError) → value_at low (i + 1) ≡ y
        → x >>= (λ h. y >>= (λ l. Ok (h * 16 + l))) ≡ Ok v → v < 256
    first (Ok h) ex (Ok l) ey e =
        let same : h * 16 + l ≡ v = cc in
        omega (
          arith,
          same,
          value_small high i h (hex_digit_value high) refl ex,
          value_small low (i + 1) l (hex_digit_value low) refl ey,
        )
    first (Ok h) ex (Err q) ey e = cc
    first (Err q) ex y ey e = cc

pairs_small : (i : ℕ) (text bytes : List ℕ) → decode_pairs i text ≡ Ok bytes → slice_index bytes 0 < 256
unfolding decode_pairs
pairs_small i [] bytes e = let same : [] ≡ bytes = cc in omega (arith, ap (λ (bs : List ℕ). slice_index bs 0) same)
pairs_small i (d ∷ []) bytes e = cc
pairs_small i (high ∷ low ∷ rest) bytes e = at (pair_value high low i) refl (decode_pairs (i + 2) rest) e
  where
    at : (x : Result ℕ FromHexError) → pair_value high low i ≡ x → (y : Result (List ℕ) FromHexError)
        → x >>= (λ b. y >>= (λ bs. Ok (b ∷ bs))) ≡ Ok bytes → slice_index bytes 0 < 256
    at (Ok b) ex (Ok bs) e =
        let same : b ∷ bs ≡ bytes = cc in
        omega (arith, ap (λ (l : List ℕ). slice_index l 0) same, pair_small high low i b ex)
    at (Ok b) ex (Err q) e = cc
    at (Err q) ex y e = cc

byte_small : (text : List ℕ) (v : ℕ) → byte_of (decode_sized text 1) ≡ Some v → v < 256
byte_small text v e = at (length text % 2 == 1) (length text / 2 == 1) (decode_pairs 0 text) refl e
  where
    at : (x y : Bool) (r : Result (List ℕ) FromHexError) → decode_pairs 0 text ≡ r
        → byte_of (if x then Err OddLength else if y then r else Err InvalidStringLength) ≡ Some v → v < 256
    at true y r is e = cc
    at false true (Ok bytes) is e =
        let same : slice_index bytes 0 ≡ v = cc in
        omega (arith, same, pairs_small 0 text bytes is)
    at false true (Err q) is e = cc
    at false false r is e = cc

-- the value of a write
pub write_small : (address value : List ℕ) (w : Write) → write_of address value ≡ Some w → w.value < 2 ^ 8
write_small address value w e = at (word_of (decode_sized address 2)) (byte_of (decode_sized value 1)) refl e
  where
    at : (a v : Option ℕ) → byte_of (decode_sized value 1) ≡ v → the_write a v ≡ Some w → w.value < 2 ^ 8
    at (Some a) (Some v) is e =
        let same : record { at = a; value = v } ≡ w = cc in
        omega (arith, ap (λ (u : Write). u.value) same, byte_small value v is)
    at (Some a) None is e = cc
    at None v is e = cc

abbrev IsByteWrite : Write → Type 0
IsByteWrite w = w.value < 2 ^ 8

-- those of a row
row_small : (x : Option Write) (y : Option (List Write)) (ws : List Write)
    → ((w : Write) → x ≡ Some w → w.value < 2 ^ 8)
    → ((rest : List Write) → y ≡ Some rest → All (λ w. w.value < 2 ^ 8) rest) → with_write x y ≡ Some ws
    → All (λ w. w.value < 2 ^ 8) ws
row_small (Some w) (Some rest) ws one more e =
    let same : w ∷ rest ≡ ws = cc in
    rw (sym same) (All-cons IsByteWrite w rest (one w refl) (more rest refl))
row_small (Some w) None ws one more e = cc
row_small None y ws one more e = cc

pub writes_small : (fields : Fields) (ws : List Write) → writes_of fields ≡ Some ws → All (λ w. w.value < 2 ^ 8) ws
writes_small [] ws e = let same : [] ≡ ws = cc in rw (sym same) (All-nil IsByteWrite)
writes_small (a ∷ []) ws e = cc
writes_small (a ∷ v ∷ fields) ws e =
    row_small (write_of a v) (writes_of fields) ws (λ w is. write_small a v w is)
    (λ rest is. writes_small fields rest is) e
