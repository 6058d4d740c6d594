-- Boxes: an interval of bytes for each input.
-- Beside the promise.
use Rattle.std.specs.Prelude.{◌≡◌, ℕ, zero, suc, ◌+◌, ◌-◌, ◌*◌, ◌/◌, ◌≤◌, ◌==◌, min, max, List, length, slice_get}
use Rattle.std.specs.Prelude.{Some}
use Rattle.std.specs.Option.{option_map_or}
use Rattle.fz_num.specs.{declared.dec.Dec.Dec, Fractions.Fraction, Fractions.times, Fractions.none, Decimals.distance}
use Rattle.fuzzy_meaning.specs.declared.{block.Block.Block, block.Input.Input, block.Rule.Rule}
use Rattle.fuzzy_meaning.specs.declared.block.Trapezoid.{Trapezoid}
use Rattle.fuzzy_meaning.specs.{Blocks.input_at, Blocks.AreInputs, Meaning.weight_of, Places.points_of}
use Rattle.byte_scaling.specs.{Cells.cell_start, Cells.cell_end, Cells.LiesInCell, Weights.weight_byte_of}
use Rattle.point_slope.specs.Tables.{row_of, grade_of}
use Rattle.error_bound.specs.declared.boxes.Interval.{Interval}
use Rattle.error_bound.specs.{Places.low, Places.high, Spans.Span, Spans.only, Spans.span, Spans.byte_span}

-- each interval has at least one byte
pub record IsBox (box : List Interval) : Type 0 where
  pub some : (k : ℕ) (v : Interval) → slice_get box k ≡ Some v → (v.from ≤ v.to) × (v.to ≤ 255)

-- one for each input
pub record IsBoxOf (b : Block) (box : List Interval) : Type 0 where
  pub count : length box ≡ length b.inputs
  pub intervals : IsBox box

-- each byte lies in its interval
pub record LieIn (box : List Interval) (bytes : List ℕ) : Type 0 where
  pub count : length bytes ≡ length box
  pub within : (k : ℕ) (v : Interval) (n : ℕ) → slice_get box k ≡ Some v → slice_get bytes k ≡ Some n
      → (v.from ≤ n) × (n ≤ v.to)

-- each number is within its input's range and lies in the cell of its byte
pub record LieInCells (b : Block) (bytes : List ℕ) (xs : List Dec) : Type 0 where
  pub inputs : AreInputs b xs
  pub count : length bytes ≡ length b.inputs
  pub cell : (k : ℕ) (i : Input) (n : ℕ) (x : Dec) → slice_get b.inputs k ≡ Some i → slice_get bytes k ≡ Some n
      → slice_get xs k ≡ Some x → LiesInCell i n x

-- the degrees of a term over the cells of an interval
abbrev pub degrees_over : Input → Trapezoid → Interval → Span Fraction
degrees_over i t v =
    let w = distance i.lo i.hi in
    record {
      low = low (points_of i t) (cell_start w v.from) (cell_end w v.to);
      high = high (points_of i t) (cell_start w v.from) (cell_end w v.to) (v.to == 255);
    }

-- the least and the greatest of n + 1 numbers from number p on
abbrev pub least_from : (ℕ → ℕ) → ℕ → ℕ → ℕ
least_from g p zero = g p
least_from g p (suc n) = min (least_from g p n) (g (p + suc n))

abbrev pub greatest_from : (ℕ → ℕ) → ℕ → ℕ → ℕ
greatest_from g p zero = g p
greatest_from g p (suc n) = max (greatest_from g p n) (g (p + suc n))

-- its grades over the bytes of an interval
abbrev pub grades_over : Input → Trapezoid → Interval → Span ℕ
grades_over i t v =
    let g = grade_of (row_of i t) in
    record { low = least_from g v.from (v.to - v.from); high = greatest_from g v.from (v.to - v.from) }

-- what f gives for term t of input i and that input's interval, where they are there
abbrev pub at_literal : {A : Type 0} → (Input → Trapezoid → Interval → A) → A → Block → List Interval → ℕ → ℕ → A
at_literal f otherwise b box i t =
    option_map_or (λ x. option_map_or (λ term. option_map_or (f x term) (slice_get box (i - 1)) otherwise)
    (slice_get x.terms (t - 1)) otherwise) (input_at b i) otherwise

abbrev pub literal_span : Block → List Interval → ℕ → ℕ → Span Fraction
literal_span b box i t = at_literal degrees_over (only none) b box i t

abbrev pub literal_byte_span : Block → List Interval → ℕ → ℕ → Span ℕ
literal_byte_span b box i t = at_literal grades_over (only 0) b box i t

-- a rule's strengths: the truth times the weight
abbrev pub rule_span : Block → List Interval → Rule → Span Fraction
rule_span b box r =
    let s = span (literal_span b box) r.cond in
    record { low = times s.low (weight_of r.weight); high = times s.high (weight_of r.weight) }

-- its strengths over bytes: the truth scaled by the weight byte
abbrev pub rule_byte_span : Block → List Interval → Rule → Span ℕ
rule_byte_span b box r =
    let s = byte_span (literal_byte_span b box) r.cond in
    let v = weight_byte_of r.weight + 1 in
    record { low = s.low * v / 256; high = s.high * v / 256 }
