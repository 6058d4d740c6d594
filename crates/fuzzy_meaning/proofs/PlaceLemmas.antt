-- The degree of a number is the degree of its place.
use Rattle.std.proofs.Common.{◌≡◌, Option, Some, None, refl, ap₂, arith}
use Rattle.std.specs.Prelude.{◌≤ℤ◌, IfSome, option_map}
use Rattle.std.proofs.lemmas.Int.{ints}
use Rattle.std.proofs.lemmas.Bool.Decides.{nat_tests}
use Rattle.fz_num.specs.{declared.dec.Dec.Dec, Fractions.over, Fractions.lesser, Decimals.distance}
use Rattle.fuzzy_meaning.specs.Degrees.{rise, fall}
use Rattle.fuzzy_meaning.specs.Places.{rise_at, fall_at, NumbersHaveTheirDegrees}

rise_at-some : (lo a b x : Dec) → lo.0 ≤ℤ a.0 → a.0 ≤ℤ b.0 → lo.0 ≤ℤ x.0
    → rise_at (Some (distance lo a)) (distance lo b) (over (distance lo x) 1) ≡ rise (Some a) b x
rise_at-some lo a b x h1 h2 h3 = grind (arith, ints, nat_tests)

fall_at-some : (lo c d x : Dec) → lo.0 ≤ℤ c.0 → c.0 ≤ℤ d.0 → lo.0 ≤ℤ x.0
    → fall_at (distance lo c) (Some (distance lo d)) (over (distance lo x) 1) ≡ fall c (Some d) x
fall_at-some lo c d x h1 h2 h3 = grind (arith, ints, nat_tests)

rise_at-number : (lo : Dec) (a : Option Dec) (b x : Dec) → IfSome a (λ p. (lo.0 ≤ℤ p.0) × (p.0 ≤ℤ b.0)) → lo.0 ≤ℤ x.0
    → rise_at (option_map (distance lo) a) (distance lo b) (over (distance lo x) 1) ≡ rise a b x
rise_at-number lo None b x h hx = refl
rise_at-number lo (Some a) b x h hx = rise_at-some lo a b x h.0 h.1 hx

fall_at-number : (lo hi c : Dec) (d : Option Dec) (x : Dec) → lo.0 ≤ℤ c.0 → IfSome d (λ p. (c.0 ≤ℤ p.0) × (p.0 ≤ℤ hi.0))
    → lo.0 ≤ℤ x.0 → fall_at (distance lo c) (option_map (distance lo) d) (over (distance lo x) 1) ≡ fall c d x
fall_at-number lo hi c None x hc h hx = refl
fall_at-number lo hi c (Some d) x hc h hx = fall_at-some lo c d x hc h.0 hx

pub degree_at-number : NumbersHaveTheirDegrees
degree_at-number i t x v hx =
    let b_in = v.b_in in
    let peak = v.peak in
    let c_in : i.lo.0 ≤ℤ t.c.0 = omega (arith, ints) in
    ap₂ lesser (rise_at-number i.lo t.a t.b x v.a_in hx) (fall_at-number i.lo i.hi t.c t.d x c_in v.d_in hx)
