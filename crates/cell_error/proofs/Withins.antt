-- A distance in millionths, as two products.
use Rattle.std.proofs.Common.{◌≡◌, ⊎_elim, ℕ, ◌+◌, ◌-◌, ◌*◌, ◌/◌, ◌<◌, ◌≤◌}
use Rattle.std.proofs.Common.{sym, subst, ap, arith, mul-le-mul_right, mul-pos}
use Rattle.std.proofs.lemmas.Bool.{cases_lt}
use Rattle.std.specs.Int.{abs_diff}
use Rattle.fz_num.specs.Fractions.{Fraction, over, up_div}
use Rattle.fz_num.proofs.Algebra.{le-up_div, up_div-le}
use Rattle.cell_error.specs.declared.ranges.Answer.{Answer}
use Rattle.cell_error.specs.{Errors.difference, Errors.IsWithin, Errors.IsAnswer, Cuts.IsErrorAt}

abbrev pub step : Answer → ℕ
step a = a.parts * 1000000

-- the farthest above and below
abbrev pub top : Answer → ℕ → ℕ
top a e = (a.value * 1000000 + e * a.parts) * a.width

abbrev pub bottom : Answer → ℕ → ℕ
bottom a e = (a.value * 1000000 - e * a.parts) * a.width

pub within_up : (a : Answer) (e s m : ℕ) → IsWithin a e (over s m) → step a * s ≤ top a e * m
within_up a e s m h = omega arith

pub within_down : (a : Answer) (e s m : ℕ) → IsWithin a e (over s m) → bottom a e * m ≤ step a * s
within_down a e s m h =
    let k = a.value * 1000000 - e * a.parts in
    ⊎_elim
    (λ (l : a.value * 1000000 < e * a.parts). let z : k ≡ 0 = omega arith in
    subst (λ n. n * a.width * m ≤ step a * s) (sym z) (omega arith))
    (λ (l : e * a.parts ≤ a.value * 1000000). let z : k + e * a.parts ≡ a.value * 1000000 = omega arith in
    let y : (k + e * a.parts) * (a.width * m) ≡ a.value * 1000000 * (a.width * m) = ap (λ n. n * (a.width * m)) z in
    omega arith)
    (cases_lt (a.value * 1000000) (e * a.parts))

pub within_back : (a : Answer) (e s m : ℕ) → step a * s ≤ top a e * m → bottom a e * m ≤ step a * s
    → IsWithin a e (over s m)
within_back a e s m hu hd =
    let k = a.value * 1000000 - e * a.parts in
    let z : a.value * 1000000 ≤ k + e * a.parts = omega arith in
    let y : a.value * 1000000 * (a.width * m) ≤ (k + e * a.parts) * (a.width * m) = mul-le-mul_right (a.width * m) z in
    omega arith

pub whole_pos : (a : Answer) (m : ℕ) → IsAnswer a → 0 < m → 0 < a.parts * a.width * m
whole_pos a m h p = mul-pos (mul-pos h.parts_from h.width_from) p

-- rounded up, it is the least
pub least_at : (a : Answer) (s m : ℕ) → IsAnswer a → 0 < m
    → IsErrorAt a (over s m)
    (up_div (difference (a.value * a.width * m) (a.parts * s) * 1000000) (a.parts * a.width * m))
least_at a s m h p =
    let whole = a.parts * a.width * m in
    let far = difference (a.value * a.width * m) (a.parts * s) * 1000000 in
    record {
      within = le-up_div far whole (whole_pos a m h p);
      least = λ n c. up_div-le far whole n (whole_pos a m h p) c;
    }

-- and at most the whole range
pub small_at : (a : Answer) (s m : ℕ) → IsAnswer a → 0 < m → s ≤ a.width * m
    → up_div (difference (a.value * a.width * m) (a.parts * s) * 1000000) (a.parts * a.width * m) ≤ 1000000
small_at a s m h p l =
    let x : a.value * (a.width * m) ≤ a.parts * (a.width * m) = mul-le-mul_right (a.width * m) h.value_to in
    let y : s * a.parts ≤ a.width * m * a.parts = mul-le-mul_right a.parts l in
    up_div-le (difference (a.value * a.width * m) (a.parts * s) * 1000000) (a.parts * a.width * m) 1000000
    (whole_pos a m h p) (omega arith)

pub within_more : (a : Answer) (e n : ℕ) (f : Fraction) → e ≤ n → IsWithin a e f → IsWithin a n f
within_more a e n f l h =
    let m : e * (a.parts * a.width * f.den) ≤ n * (a.parts * a.width * f.den) =
    mul-le-mul_right (a.parts * a.width * f.den) l in
    omega arith

is_difference : (x y : ℕ) → abs_diff x y ≡ difference x y
is_difference x y = omega arith

-- as the code has it
pub code_is : (a : Answer) (s m v w p p' w' d : ℕ) → v ≡ a.value → w ≡ a.width → p ≡ a.parts → p' ≡ a.parts
    → w' ≡ a.width → d ≡ abs_diff (v * w * m) (p * s)
    → (d * 1000000 + (p' * w' * m - 1)) / (p' * w' * m)
    ≡ up_div (difference (a.value * a.width * m) (a.parts * s) * 1000000) (a.parts * a.width * m)
code_is a s m v w p p' w' d e1 e2 e3 e4 e5 e6 =
    let e = is_difference (v * w * m) (p * s) in cc
