-- What the code's fractions stand for.
-- Beside the promise.
use Rattle.std.specs.Prelude.{ℕ, ◌≤◌}
use Rattle.fz_num.specs.Fractions.{Fraction, over}
use Rattle.error_bound.specs.declared.ratio.Ratio.{Ratio}

abbrev pub value_of : Ratio → Fraction
value_of r = over r.num r.den

-- from 0 to 1, with a denominator of at most n
pub record IsRatio (n : ℕ) (r : Ratio) : Type 0 where
  pub num_to : r.num ≤ r.den
  pub den_from : 1 ≤ r.den
  pub den_to : r.den ≤ n

-- the truth of a condition
abbrev pub IsDegreeRatio : Ratio → Type 0
IsDegreeRatio = IsRatio 1000000000000

-- and that times a weight, in 1/10000
abbrev pub IsStrengthRatio : Ratio → Type 0
IsStrengthRatio = IsRatio 10000000000000000
