use Rattle.std.proofs.Common.{◌≡◌, ◌<◌, ◌+◌, ◌*◌, ◌/◌, ◌%◌, ℕ, suc, List, [], ◌∷◌, length, refl, subst, arith}
use Rattle.std.specs.Prelude.{Bool, true, false, ◌==◌, if◌then◌else◌, Option, Some, None, Result, Ok, Err}
use Rattle.std.proofs.lemmas.Bool.Decides.{nat_tests}
use Rattle.hex.specs.Hex.{decode_pairs, digit_or_error, hex_digit_value, pair_value, ◌>>=◌}
use Rattle.hex.specs.declared.error.FromHexError.{FromHexError}
use Rattle.fz_status.specs.Words.{flags_of, only_byte}
use Rattle.command_parts.proofs.laws.flags_are_bytes.Goals as goal

digit_small : (c v : ℕ) → hex_digit_value c ≡ Some v → v < 16
digit_small c v is = grind (arith, nat_tests)

pair_small : (h l i b : ℕ) → pair_value h l i ≡ Ok b → b < 256
pair_small h l i b is = go (hex_digit_value h) (hex_digit_value l) refl refl is
  where
    go : (x y : Option ℕ) → hex_digit_value h ≡ x → hex_digit_value l ≡ y
        → (digit_or_error h i x >>= (λ v. digit_or_error l (i + 1) y >>= (λ w. Ok (v * 16 + w)))) ≡ Ok b → b < 256
    go None y ex ey e = absurd (let bad : Err _ ≡ Ok b = e in cc)
    go (Some v) None ex ey e = absurd (let bad : Err _ ≡ Ok b = e in cc)
    go (Some v) (Some w) ex ey e =
        let hv = digit_small h v ex in
        let hw = digit_small l w ey in
        let same : v * 16 + w ≡ b = cc in
        omega (arith, hv, hw, same)

-- digits of one byte
two_small : (a b n : ℕ) → only_byte (decode_pairs 0 (a ∷ b ∷ [])) ≡ Some n → n < 256
unfolding decode_pairs
two_small a b n is = go (pair_value a b 0) refl is
  where
    go : (r : Result ℕ FromHexError) → pair_value a b 0 ≡ r
        → only_byte (r >>= (λ byte. Ok (byte ∷ []))) ≡ Some n → n < 256
    go (Err e) er h = absurd (let bad : None ≡ Some n = h in cc)
    go (Ok v) er h = (let same : v ≡ n = cc in subst (λ (m : ℕ). m < 256) same (pair_small a b 0 v er))

-- more digits than two are refused
refused : (odd two : Bool) (D : Result (List ℕ) FromHexError) (e f : FromHexError) (n : ℕ)
    → (odd ≡ false → two ≡ true → ⊥)
    → only_byte (if odd then Err e else (if two then D else Err f)) ≡ Some n → ⊥
refused true two D e f n not_two h = let bad : None ≡ Some n = h in cc
refused false true D e f n not_two h = not_two refl refl
refused false false D e f n not_two h = let bad : None ≡ Some n = h in cc

three : (k : ℕ) → (suc (suc (suc k)) % 2 == 1) ≡ false → (suc (suc (suc k)) / 2 == 1) ≡ true → ⊥
three k odd two = grind (arith, nat_tests)

flags_small : (text : List ℕ) (n : ℕ) → flags_of text ≡ Some n → n < 256
flags_small [] n is = absurd (let bad : None ≡ Some n = is in cc)
flags_small (a ∷ []) n is = absurd (let bad : None ≡ Some n = is in cc)
flags_small (a ∷ b ∷ []) n is = two_small a b n is
flags_small (a ∷ b ∷ c ∷ rest) n is =
    absurd (refused _ _ _ _ _ n (three (length rest)) is)

pub returns : goal.returns
returns c text n is = flags_small text n is
