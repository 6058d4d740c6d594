-- How far grades may be from degrees over a box, in parts of 10^9.
-- Beside the promise.
use Rattle.std.specs.Prelude.{◌≡◌, ℕ, ◌+◌, ◌-◌, ◌*◌, ◌≤◌, ◌==◌, max, List, [], ◌∷◌, if◌then◌else◌, slice_get, Some}
use Rattle.fz_num.specs.{Fractions.Fraction, Fractions.IsNear, Fractions.up_div, Decimals.distance}
use Rattle.fuzzy_meaning.specs.{declared.block.Block.Block, declared.block.Input.Input, declared.block.Rule.Rule}
use Rattle.fuzzy_meaning.specs.{declared.block.Trapezoid.Trapezoid, Blocks.input_at, Meaning.weight_of}
use Rattle.fuzzy_meaning.specs.{Meaning.concludes, Places.points_of, Places.degree_at}
use Rattle.byte_scaling.specs.{Cells.IsInCell, Weights.weight_byte_of}
use Rattle.point_slope.specs.Tables.{row_of, grade_of}
use Rattle.error_bound.specs.{declared.boxes.Interval.Interval, Spans.Span, Spans.only, Spans.deviation}

abbrev pub billion : ℕ
billion = 1000000000

-- |a - b|
abbrev pub apart : ℕ → ℕ → ℕ
apart a b = a - b + (b - a)

-- for no byte of the interval and no place of its cell is the degree further below grade/255 than the low, nor further
-- above than the high
abbrev pub Covers : Input → Trapezoid → Interval → Span ℕ → Type 0
Covers i t v e =
    (n : ℕ) → v.from ≤ n → n ≤ v.to → (x : Fraction) → IsInCell (distance i.lo i.hi) n x
    → IsNear billion (grade_of (row_of i t) n) (degree_at (points_of i t) x) e.high e.low

-- the fall of a term over an interval is the least such low, and its rise the least such high
pub record IsTermDeviation (i : Input) (t : Trapezoid) (v : Interval) (e : Span ℕ) : Type 0 where
  pub covers : Covers i t v e
  pub least : (f : Span ℕ) → Covers i t v f → (e.low ≤ f.low) × (e.high ≤ f.high)

-- its eps is the greater of the two
abbrev pub eps : Span ℕ → ℕ
eps e = max e.low e.high

-- so it is the least number that serves on both sides
pub record IsTermError (i : Input) (t : Trapezoid) (v : Interval) (e : ℕ) : Type 0 where
  pub covers : Covers i t v (only e)
  pub least : (f : ℕ) → Covers i t v (only f) → e ≤ f

-- e gives the fall and the rise of each term of each input over a box
pub record AreTermErrors (b : Block) (box : List Interval) (e : ℕ → ℕ → Span ℕ) : Type 0 where
  pub error : (i t : ℕ) (x : Input) (term : Trapezoid) (v : Interval) → input_at b i ≡ Some x
      → slice_get x.terms (t - 1) ≡ Some term → slice_get box (i - 1) ≡ Some v → IsTermDeviation x term v (e i t)

-- |(v + 1)/256 - w|, rounded up
abbrev pub weight_error : Rule → ℕ
weight_error r = up_div (apart ((weight_byte_of r.weight + 1) * 10000) (weight_of r.weight * 256) * billion) 2560000

-- what rounding down may lose: 1/255, rounded up
abbrev pub floor_error : Rule → ℕ
floor_error r = if weight_byte_of r.weight == 255 then 0 else up_div billion 255

-- a rule's strength is at most so far above that over bytes
abbrev pub rule_rise : (ℕ → ℕ → Span ℕ) → Rule → ℕ
rule_rise e r = (deviation e r.cond).high + weight_error r + floor_error r

-- and below, where nothing is lost by rounding
abbrev pub rule_fall : (ℕ → ℕ → Span ℕ) → Rule → ℕ
rule_fall e r = (deviation e r.cond).low + weight_error r

-- its eps, on both sides
abbrev pub rule_error : (ℕ → ℕ → Span ℕ) → Rule → ℕ
rule_error e r = eps (deviation e r.cond) + weight_error r + floor_error r

-- of term t of output o: the greatest of those of the rules that conclude it, or 0
abbrev pub output_error_among : (ℕ → ℕ → Span ℕ) → ℕ → ℕ → List Rule → ℕ
output_error_among e o t [] = 0
output_error_among e o t (r ∷ rs) =
    if concludes r o t then max (rule_error e r) (output_error_among e o t rs) else output_error_among e o t rs

abbrev pub output_error : Block → (ℕ → ℕ → Span ℕ) → ℕ → ℕ → ℕ
output_error b e o t = output_error_among e o t b.rules
