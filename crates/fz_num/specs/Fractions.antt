-- Fractions: a natural over a positive natural, compared by cross products; and what those of the code stand for.
-- Reached by the promise.
use Rattle.std.specs.Prelude.{ℕ, ◌+◌, ◌-◌, ◌*◌, ◌/◌, ◌<◌, ◌≤◌, if◌then◌else◌, nat_le}
use Rattle.std.specs.Ordering.{nat_cmp}
use Rattle.std.specs.declared.cmp.Ordering.{Ordering}
use Rattle.std.specs.Prelude.{◌≡◌, ℤ, pos, ◌-ℤ◌, ◌*ℤ◌, ◌≤ℤ◌, ◌<ℤ◌, unsigned_abs}
use Rattle.fz_num.specs.{declared.frac.Frac.Frac}

pub record Fraction : Type 0 where
  pub num : ℕ
  pub den : ℕ

abbrev pub over : ℕ → ℕ → Fraction
over n d = record { num = n; den = d }

abbrev pub one : Fraction
one = over 1 1

abbrev pub none : Fraction
none = over 0 1

pub record IsProper (f : Fraction) : Type 0 where
  pub pos : 0 < f.den

-- f is at most g
pub record AtMost (f g : Fraction) : Type 0 where
  pub cross : f.num * g.den ≤ g.num * f.den

-- f is below g
pub record IsBelow (f g : Fraction) : Type 0 where
  pub cross : f.num * g.den < g.num * f.den

-- less, equal or greater
abbrev pub order : Fraction → Fraction → Ordering
order f g = nat_cmp (f.num * g.den) (g.num * f.den)

-- where they are equal, the first
abbrev pub lesser : Fraction → Fraction → Fraction
lesser f g = if nat_le (f.num * g.den) (g.num * f.den) then f else g

-- where they are equal, the second
abbrev pub greater : Fraction → Fraction → Fraction
greater f g = if nat_le (f.num * g.den) (g.num * f.den) then g else f

abbrev pub one_minus : Fraction → Fraction
one_minus f = over (f.den - f.num) f.den

-- times a weight in 1/10000
abbrev pub times : Fraction → ℕ → Fraction
times f w = over (f.num * w) (f.den * 10000)

-- the quotient rounded up
abbrev pub up_div : ℕ → ℕ → ℕ
up_div a b = (a + (b - 1)) / b

-- f is at most `rise` parts of t above g/255, and at most `fall` below
pub record IsNear (t g : ℕ) (f : Fraction) (rise fall : ℕ) : Type 0 where
  pub up : f.num * 255 * t ≤ g * f.den * t + rise * 255 * f.den
  pub down : g * f.den * t ≤ f.num * 255 * t + fall * 255 * f.den

-- how far f is above g/255 in parts of t, rounded up
abbrev pub rise : ℕ → ℕ → Fraction → ℕ
rise t g f = up_div ((f.num * 255 - g * f.den) * t) (255 * f.den)

-- and below
abbrev pub fall : ℕ → ℕ → Fraction → ℕ
fall t g f = up_div ((g * f.den - f.num * 255) * t) (255 * f.den)

-- of a fraction that is not negative
abbrev pub fraction_of : Frac → Fraction
fraction_of f = over (unsigned_abs f.num) (unsigned_abs f.den)

-- from 0 to 1, with a denominator of at most n
pub record IsTruth (n : ℕ) (f : Frac) : Type 0 where
  pub num_from : pos 0 ≤ℤ f.num
  pub num_to : f.num ≤ℤ f.den
  pub den_from : pos 1 ≤ℤ f.den
  pub den_to : f.den ≤ℤ pos n

-- a fraction that may be negative
pub record Quotient : Type 0 where
  pub num : ℤ
  pub den : ℕ

-- f has the value of q
pub record IsValueOf (q : Quotient) (f : Frac) : Type 0 where
  pub den_from : pos 0 <ℤ f.den
  pub cross : f.num *ℤ pos q.den ≡ q.num *ℤ f.den

-- |p - q| is at most e millionths of a range, whose width w is in 1/10000
pub record IsClose (w e : ℕ) (p q : Quotient) : Type 0 where
  pub dens : 0 < p.den * q.den
  pub cross : unsigned_abs (p.num *ℤ pos q.den -ℤ q.num *ℤ pos p.den) * 10000000000 ≤ e * w * (p.den * q.den)
