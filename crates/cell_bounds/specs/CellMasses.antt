-- What the code's masses of a cell stand for.
-- Beside the promise.
use Rattle.std.specs.Prelude.{◌≡◌, ℕ, ◌<◌, ◌≤◌, All, List, None, take}
use Rattle.fuzzy_meaning.specs.declared.{block.Block.Block, block.Output.Output}
use Rattle.point_slope.specs.Bytes.{answer_in}
use Rattle.cell_error.specs.{declared.ranges.MassRange.MassRange, Errors.IsAnswer, Errors.IsRange, Errors.sure_mass}
use Rattle.error_bound.specs.{declared.boxes.Interval.Interval, Boxes.LieIn}
use Rattle.error_bound.specs.MassRanges.{ranges, answer_at, rest_of}
use Rattle.cell_bounds.specs.declared.masses.CellMasses.{CellMasses}

abbrev pub terms_of : CellMasses → List MassRange
terms_of c = take c.count c.ranges

-- small enough
pub record AreFit (c : CellMasses) : Type 0 where
  pub answer : IsAnswer c.answer
  pub terms : All (IsRange c.answer.width) (terms_of c)
  pub count : c.count ≤ 15
  pub rest : c.rest ≤ c.answer.width

-- those of an output over a cell, with the answer over bytes
pub record AreCellMasses (b : Block) (box : List Interval) (o : ℕ) (x : Output) (h : ℕ) (c : CellMasses) : Type 0 where
  pub answer_is : c.answer ≡ answer_at h x c.answer.value
  pub answers : (bytes : List ℕ) (before : ℕ) → LieIn box bytes → answer_in h b o bytes before ≡ c.answer.value
  pub terms_are : terms_of c ≡ ranges b box o x
  pub rest_is : c.rest ≡ rest_of x
  pub sure : x.default ≡ None → 0 < sure_mass (ranges b box o x)
