-- How far one answer may be from the answers of all masses between given numbers.
-- Beside the promise.
use Rattle.std.specs.Prelude.{All, ℕ, ◌+◌, ◌-◌, ◌*◌, ◌≤◌, ◌==◌, if◌then◌else◌, List, [], ◌∷◌}
use Rattle.fz_num.specs.Fractions.{Fraction, over}
use Rattle.cell_error.specs.declared.{ranges.MassRange.MassRange, ranges.Answer.Answer}

-- each mass, in parts of d to its unit, lies between its term's numbers
abbrev pub AreBetween : ℕ → List MassRange → List ℕ → Type 0
AreBetween d [] [] = Unit {0}
AreBetween d [] (m ∷ ms) = ⊥
AreBetween d (t ∷ ts) [] = ⊥
AreBetween d (t ∷ ts) (m ∷ ms) = (t.low * d ≤ m) × (m ≤ t.high * d) × AreBetween d ts ms

-- the sum of the masses, and of the singletons by their masses
abbrev pub total : List ℕ → ℕ
total [] = 0
total (m ∷ ms) = m + total ms

abbrev pub weighted : List MassRange → List ℕ → ℕ
weighted [] ms = 0
weighted (t ∷ ts) [] = 0
weighted (t ∷ ts) (m ∷ ms) = t.at * m + weighted ts ms

-- the sum of the lows
abbrev pub sure_mass : List MassRange → ℕ
sure_mass [] = 0
sure_mass (t ∷ ts) = t.low + sure_mass ts

-- the answer to masses, above the low end, or what stands in for it where there is none
abbrev pub answer_of : List MassRange → ℕ → List ℕ → Fraction
answer_of ts rest ms = if total ms == 0 then over rest 1 else over (weighted ts ms) (total ms)

-- |a - b|
abbrev pub difference : ℕ → ℕ → ℕ
difference a b = a - b + (b - a)

-- the answer is at most e millionths of the range from f, both above the low end
abbrev pub IsWithin : Answer → ℕ → Fraction → Type 0
IsWithin a e f = difference (a.value * a.width * f.den) (a.parts * f.num) * 1000000 ≤ e * (a.parts * a.width * f.den)

-- it is that from the answers to all masses between the numbers
abbrev pub Covers : Answer → List MassRange → ℕ → ℕ → Type 0
Covers a ts rest e = (d : ℕ) (ms : List ℕ) → 1 ≤ d → AreBetween d ts ms → IsWithin a e (answer_of ts rest ms)

-- the least such e
pub record IsCellError (a : Answer) (ts : List MassRange) (rest e : ℕ) : Type 0 where
  pub covers : Covers a ts rest e
  pub least : (f : ℕ) → Covers a ts rest f → e ≤ f

-- the greatest width of a range, in 1/10000
abbrev pub most_width : ℕ
most_width = 2000010000

-- a mass of 1, in parts of 255 * 10^9
abbrev pub whole_mass : ℕ
whole_mass = 255000000000

-- an answer of at most 65280 parts, in a range of at most that width
pub record IsAnswer (a : Answer) : Type 0 where
  pub value_to : a.value ≤ a.parts
  pub parts_from : 1 ≤ a.parts
  pub parts_to : a.parts ≤ 65280
  pub width_from : 1 ≤ a.width
  pub width_to : a.width ≤ most_width

-- a singleton within the range, and masses of at most 255 in parts of 10^9
pub record IsRange (width : ℕ) (t : MassRange) : Type 0 where
  pub at_to : t.at ≤ width
  pub low_to : t.low ≤ t.high
  pub high_to : t.high ≤ whole_mass

-- what covers all masses is no less than an error
abbrev pub CoveredMassesHaveErrors : Type 0
CoveredMassesHaveErrors =
    (a : Answer) (ts : List MassRange) (rest n : ℕ) → All (IsRange a.width) ts → Covers a ts rest n
    → (e : ℕ) × IsCellError a ts rest e × (e ≤ n)
