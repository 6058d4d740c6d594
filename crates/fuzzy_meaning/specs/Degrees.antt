-- The degree of a term (IEC 61131-7:2000, linear terms).
-- Reached by the promise.
use Rattle.std.specs.Prelude.{◌≡◌, if◌then◌else◌, Option, Some, None, ◌≤ℤ◌, ◌<ℤ◌}
use Rattle.std.specs.Int.Signed.{le_z}
use Rattle.fz_num.specs.{declared.dec.Dec.Dec, Decimals.distance}
use Rattle.fz_num.specs.Fractions.{Fraction, over, lesser, one, none}
use Rattle.fuzzy_meaning.specs.declared.block.Trapezoid.{Trapezoid}

-- the rising side at x: 1 from b on, 0 up to a, and a straight course between them
abbrev pub rise : Option Dec → Dec → Dec → Fraction
rise None b x = one
rise (Some a) b x = if le_z b.0 x.0 then one else (if le_z x.0 a.0 then none else over (distance a x) (distance a b))

-- the falling side: 1 up to c, 0 from d on
abbrev pub fall : Dec → Option Dec → Dec → Fraction
fall c None x = one
fall c (Some d) x = if le_z x.0 c.0 then one else (if le_z d.0 x.0 then none else over (distance x d) (distance c d))

-- the lesser of the two sides
abbrev pub degree : Trapezoid → Dec → Fraction
degree t x = lesser (rise t.a t.b x) (fall t.c t.d x)

-- the degree by where x stands; the seven rows leave no place out
pub record IsByPlace (t : Trapezoid) (x : Dec) (f : Fraction) : Type 0 where
  pub top : t.b.0 ≤ℤ x.0 → x.0 ≤ℤ t.c.0 → f ≡ one
  pub left_open : t.a ≡ None → x.0 <ℤ t.b.0 → f ≡ one
  pub right_open : t.d ≡ None → t.c.0 <ℤ x.0 → f ≡ one
  pub rising : (a : Dec) → t.a ≡ Some a → a.0 <ℤ x.0 → x.0 <ℤ t.b.0 → f ≡ over (distance a x) (distance a t.b)
  pub falling : (d : Dec) → t.d ≡ Some d → t.c.0 <ℤ x.0 → x.0 <ℤ d.0 → f ≡ over (distance x d) (distance t.c d)
  pub before : (a : Dec) → t.a ≡ Some a → x.0 ≤ℤ a.0 → x.0 <ℤ t.b.0 → f ≡ none
  pub after : (d : Dec) → t.d ≡ Some d → d.0 ≤ℤ x.0 → t.c.0 <ℤ x.0 → f ≡ none
