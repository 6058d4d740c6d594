-- How far the mean of an output's singletons may move, where each mass may be too low or too high by so much.
-- Beside the promise.
use Rattle.std.specs.Prelude.{◌≡◌, ℕ, ◌+◌, ◌-◌, ◌*◌, ◌≤◌, ◌<◌, List, [], ◌∷◌, All, ◌⊎◌}
use Rattle.cell_error.specs.declared.{ranges.MassRange.MassRange, ranges.Deviation.Deviation, means.Scale.Scale}
use Rattle.cell_error.specs.{declared.means.Pull.Pull, Errors.AreBetween, Errors.total, Errors.weighted}
use Rattle.cell_error.specs.Errors.{sure_mass, most_width}

-- what the terms above the mean a/g pull by `over`, and those below by `under`, each as often as it is from there
abbrev pub pull : (Deviation → ℕ) → (Deviation → ℕ) → List MassRange → List Deviation → ℕ → ℕ → ℕ
pull over under [] ds g a = 0
pull over under (t ∷ ts) [] g a = 0
pull over under (t ∷ ts) (d ∷ ds) g a =
    over d * (t.at * g - a) + under d * (a - t.at * g) + pull over under ts ds g a

-- how far up, and how far down, the mean of masses may be pulled
abbrev pub up : List MassRange → List Deviation → List ℕ → ℕ
up ts ds ms = pull (λ d. d.rise) (λ d. d.fall) ts ds (total ms) (weighted ts ms)

abbrev pub down : List MassRange → List Deviation → List ℕ → ℕ
down ts ds ms = pull (λ d. d.fall) (λ d. d.rise) ts ds (total ms) (weighted ts ms)

-- n over g comes to 255 n/(width * sum * g) + offset/(255 width) + floors/(255 parts) of the range
abbrev pub pulled_num : Scale → ℕ → ℕ → ℕ → ℕ
pulled_num s floors n g = 65025 * s.parts * n + (s.offset * s.parts + floors * s.width) * (s.sum * g)

abbrev pub pulled_den : Scale → ℕ → ℕ
pulled_den s g = 255 * s.parts * s.width * (s.sum * g)

-- that is at most e millionths
abbrev pub IsPulledWithin : Scale → ℕ → ℕ → ℕ → ℕ → Type 0
IsPulledWithin s floors n g e = pulled_num s floors n g * 1000000 ≤ e * pulled_den s g

-- on both sides, where the answer is rounded down to one of its parts
pub record IsMeanWithin (s : Scale) (ts : List MassRange) (ds : List Deviation) (ms : List ℕ) (e : ℕ) : Type 0 where
  pub up : IsPulledWithin s 1 (up ts ds ms) (total ms) e
  pub down : IsPulledWithin s 0 (down ts ds ms) (total ms) e

-- a number of millionths below the whole range covers all lists of whole masses between the terms' numbers
abbrev pub CoversMeans : Scale → List MassRange → List Deviation → ℕ → Type 0
CoversMeans s ts ds e = e < 1000000 → (ms : List ℕ) → AreBetween 1 ts ms → IsMeanWithin s ts ds ms e

-- the least that does, 1000000 at most
pub record IsMeanError (s : Scale) (ts : List MassRange) (ds : List Deviation) (e : ℕ) : Type 0 where
  pub covers : CoversMeans s ts ds e
  pub least : (f : ℕ) → CoversMeans s ts ds f → e ≤ f

-- nothing is divided by 0
pub record IsSome (s : Scale) : Type 0 where
  pub width : 1 ≤ s.width
  pub sum : 1 ≤ s.sum
  pub parts : 1 ≤ s.parts

-- a range of at most 200001, and 15 masses of 255 * 10^9 and 256 parts to a byte at most
pub record IsScale (s : Scale) : Type 0 where
  pub some : IsSome s
  pub width_to : s.width ≤ most_width
  pub sum_to : s.sum ≤ 3825000000000
  pub offset_to : s.offset ≤ 510002550000
  pub parts_to : s.parts ≤ 256

abbrev pub IsOrdered : MassRange → Type 0
IsOrdered t = t.low ≤ t.high

-- a singleton within the range, and masses of bytes
pub record IsByteRange (width : ℕ) (t : MassRange) : Type 0 where
  pub at_to : t.at ≤ width
  pub ordered : IsOrdered t
  pub high_to : t.high ≤ 255

-- the greatest deviation of a rule's strength, in parts of 10^9: of its literals, its weight and the last rounding
abbrev pub most_deviation : ℕ
most_deviation = 3000000000

pub record IsSmallDeviation (d : Deviation) : Type 0 where
  pub rise_to : d.rise ≤ most_deviation
  pub fall_to : d.fall ≤ most_deviation

-- ---- of some masses

pub record IsSmallPull (p : Pull) : Type 0 where
  pub pull_to : p.pull ≤ 350000000000000000000000
  pub mass_from : 1 ≤ p.mass
  pub mass_to : p.mass ≤ 3825

-- the greater of two, as fractions
pub record IsGreaterPull (p q r : Pull) : Type 0 where
  pub one : (r ≡ p) ⊎ (r ≡ q)
  pub left : p.pull * r.mass ≤ r.pull * p.mass
  pub right : q.pull * r.mass ≤ r.pull * q.mass

-- where some mass is sure there is an error
abbrev pub MeansHaveErrors : Type 0
MeansHaveErrors =
    (s : Scale) (ts : List MassRange) (ds : List Deviation) → IsSome s → All IsOrdered ts → 1 ≤ sure_mass ts
    → (e : ℕ) × IsMeanError s ts ds e
