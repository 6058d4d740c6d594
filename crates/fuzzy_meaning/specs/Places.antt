-- The degree of a term at any place of its input's range. A place is a fraction in 1/10000, measured from the low end.
-- Beside the promise.
use Rattle.std.specs.Prelude.{◌≡◌, ℕ, ◌-◌, ◌*◌, if◌then◌else◌, nat_le, Option, Some, None, option_map, ◌≤ℤ◌}
use Rattle.fz_num.specs.{declared.dec.Dec.Dec, Decimals.distance}
use Rattle.fz_num.specs.Fractions.{Fraction, over, lesser, one, none}
use Rattle.fuzzy_meaning.specs.declared.{block.Input.Input, block.Trapezoid.Trapezoid}
use Rattle.fuzzy_meaning.specs.{Blocks.IsValidTerm, Degrees.degree}

-- a trapezoid's points, measured from the low end
pub record Points : Type 0 where
  pub a : Option ℕ
  pub b : ℕ
  pub c : ℕ
  pub d : Option ℕ

abbrev pub points_of : Input → Trapezoid → Points
points_of i t = record {
  a = option_map (distance i.lo) t.a;
  b = distance i.lo t.b;
  c = distance i.lo t.c;
  d = option_map (distance i.lo) t.d;
}

-- the rising side: 1 from b on, 0 up to a
abbrev pub rise_at : Option ℕ → ℕ → Fraction → Fraction
rise_at None b x = one
rise_at (Some a) b x =
    if nat_le (b * x.den) x.num then one
    else (if nat_le x.num (a * x.den) then none else over (x.num - a * x.den) ((b - a) * x.den))

-- the falling side: 1 up to c, 0 from d on
abbrev pub fall_at : ℕ → Option ℕ → Fraction → Fraction
fall_at c None x = one
fall_at c (Some d) x =
    if nat_le x.num (c * x.den) then one
    else (if nat_le (d * x.den) x.num then none else over (d * x.den - x.num) ((d - c) * x.den))

abbrev pub degree_at : Points → Fraction → Fraction
degree_at t x = lesser (rise_at t.a t.b x) (fall_at t.c t.d x)

-- at a number from the low end on it is the number's degree
abbrev pub NumbersHaveTheirDegrees : Type 0
NumbersHaveTheirDegrees =
    (i : Input) (t : Trapezoid) (x : Dec) → IsValidTerm i.lo i.hi t → i.lo.0 ≤ℤ x.0
    → degree_at (points_of i t) (over (distance i.lo x) 1) ≡ degree t x
