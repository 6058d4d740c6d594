-- Masses that are high where a singleton is above a number, and low elsewhere, tilt a sum most.
use Rattle.std.proofs.Common.{◌≡◌, ℕ, ◌+◌, ◌-◌, ◌*◌, ◌≤◌, List, [], ◌∷◌, Bool, true, false}
use Rattle.std.proofs.Common.{refl, sym, subst, arith, mul-le-mul_right}
use Rattle.std.specs.Prelude.{if◌then◌else◌}
use Rattle.cell_error.specs.declared.ranges.MassRange.{MassRange}
use Rattle.cell_error.specs.{Errors.AreBetween, Errors.total, Errors.weighted, Cuts.chosen}

-- one term: v (m - n) is at most y (m - n)
one_more : (v y m n : ℕ) → y ≤ v → m ≤ n → v * m + y * n ≤ y * m + v * n
one_more v y m n h l =
    let k = n - m in
    let e : n ≡ m + k = omega arith in
    let p : y * k ≤ v * k = mul-le-mul_right k h in
    subst (λ z. v * m + y * z ≤ y * m + v * z) (sym e) (omega arith)

one_less : (v y m n : ℕ) → v ≤ y → n ≤ m → v * m + y * n ≤ y * m + v * n
one_less v y m n h l =
    let k = m - n in
    let e : m ≡ n + k = omega arith in
    let p : v * k ≤ y * k = mul-le-mul_right k h in
    subst (λ z. v * z + y * n ≤ y * z + v * n) (sym e) (omega arith)

-- where p holds of the singletons with y ≤ x u
pub tilt_up : (x y d : ℕ) (p : ℕ → Bool) → ((u : ℕ) → p u ≡ true → y ≤ x * u) → ((u : ℕ) → p u ≡ false → x * u ≤ y)
    → (ts : List MassRange) (ms : List ℕ) → AreBetween d ts ms
    → x * weighted ts ms + y * (d * total (chosen p ts)) ≤ y * total ms + x * (d * weighted ts (chosen p ts))
tilt_up x y d p on off [] [] b = omega arith
tilt_up x y d p on off [] (m ∷ ms) b = absurd b
tilt_up x y d p on off (t ∷ ts) [] b = absurd b
tilt_up x y d p on off (t ∷ ts) (m ∷ ms) b =
    let tail = tilt_up x y d p on off ts ms b.2 in
    let one = by_test (p t.at) (on t.at) (off t.at) in
    omega arith
  where
    by_test : (v : Bool) → (v ≡ true → y ≤ x * t.at) → (v ≡ false → x * t.at ≤ y)
        → (x * t.at) * m + y * (d * (if v then t.high else t.low))
        ≤ y * m + (x * t.at) * (d * (if v then t.high else t.low))
    by_test true h g = one_more (x * t.at) y m (d * t.high) (h refl) (let l = b.1 in omega arith)
    by_test false h g = one_less (x * t.at) y m (d * t.low) (g refl) (let l = b.0 in omega arith)

-- where it holds of those with x u ≤ y
pub tilt_down : (x y d : ℕ) (p : ℕ → Bool) → ((u : ℕ) → p u ≡ true → x * u ≤ y) → ((u : ℕ) → p u ≡ false → y ≤ x * u)
    → (ts : List MassRange) (ms : List ℕ) → AreBetween d ts ms
    → y * total ms + x * (d * weighted ts (chosen p ts)) ≤ x * weighted ts ms + y * (d * total (chosen p ts))
tilt_down x y d p on off [] [] b = omega arith
tilt_down x y d p on off [] (m ∷ ms) b = absurd b
tilt_down x y d p on off (t ∷ ts) [] b = absurd b
tilt_down x y d p on off (t ∷ ts) (m ∷ ms) b =
    let tail = tilt_down x y d p on off ts ms b.2 in
    let one = by_test (p t.at) (on t.at) (off t.at) in
    omega arith
  where
    by_test : (v : Bool) → (v ≡ true → x * t.at ≤ y) → (v ≡ false → y ≤ x * t.at)
        → y * m + (x * t.at) * (d * (if v then t.high else t.low))
        ≤ (x * t.at) * m + y * (d * (if v then t.high else t.low))
    by_test true h g = one_more y (x * t.at) m (d * t.high) (h refl) (let l = b.1 in omega arith)
    by_test false h g = one_less y (x * t.at) m (d * t.low) (g refl) (let l = b.0 in omega arith)
