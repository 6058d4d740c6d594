-- The error of a cell: a box of one byte for each input.
-- Beside the promise.
use Rattle.std.specs.Prelude.{◌≡◌, ℕ, ◌+◌, ◌*◌, ◌/◌, ◌<◌, ◌==◌, if◌then◌else◌, List, [], ◌∷◌, Some, None, slice_get}
use Rattle.fz_num.specs.{declared.dec.Dec.Dec, Decimals.distance, Fractions.Quotient, Fractions.IsClose}
use Rattle.cell_error.specs.Errors.{IsCellError, sure_mass}
use Rattle.fuzzy_meaning.specs.declared.{block.Block.Block, block.Output.Output}
use Rattle.fuzzy_meaning.specs.{Blocks.output_at, Meaning.answer_after}
use Rattle.byte_scaling.specs.Cells.{value_in, nearest_byte}
use Rattle.point_slope.specs.Bytes.{answer_in, resting_answer, byte_shares, total_mass}
use Rattle.error_bound.specs.{declared.boxes.Interval.Interval, Boxes.IsBox, Boxes.LieIn}
use Rattle.error_bound.specs.MassRanges.{ranges, answer_at, rest_of, AreOverBox}

pub record IsCell (box : List Interval) : Type 0 where
  pub single : (k : ℕ) (v : Interval) → slice_get box k ≡ Some v → v.from ≡ v.to

-- the cell of these bytes
abbrev pub cell_of : List ℕ → List Interval
cell_of [] = []
cell_of (n ∷ ns) = record { from = n; to = n } ∷ cell_of ns

-- n is the least error that serves for all masses that the terms may have on the cell, where the answer over bytes is
-- one; with NC some mass is sure
pub record IsErrorOnCell (b : Block) (box : List Interval) (o : ℕ) (x : Output) (h n : ℕ) : Type 0 where
  pub answer : ℕ
  pub is_answer : (bytes : List ℕ) (before : ℕ) → LieIn box bytes → answer_in h b o bytes before ≡ answer
  pub sure : x.default ≡ None → 0 < sure_mass (ranges b box o x)
  pub error : IsCellError (answer_at h x answer) (ranges b box o x) (rest_of x) n

-- then the answer over bytes is within n of the exact answer
abbrev pub AnswersOnCellsAreNear : Type 0
AnswersOnCellsAreNear =
    (b : Block) (box : List Interval) (o : ℕ) (x : Output) (h : ℕ) (bytes : List ℕ) (xs : List Dec) (n q : ℕ)
    (before : Quotient) → AreOverBox b box o x h bytes xs → IsErrorOnCell b box o x h n
    → IsClose (distance x.lo x.hi) n (value_in h x (answer_in h b o bytes q)) (answer_after b o before xs)

-- with NC, no mass is sure, or over bytes all are 0
pub data IsUnsure (b : Block) (box : List Interval) (o : ℕ) (x : Output) : Type 0 where
  unsure : x.default ≡ None → sure_mass (ranges b box o x) ≡ 0 → IsUnsure b box o x
  silent : x.default ≡ None
      → ((bytes : List ℕ) → LieIn box bytes → total_mass (byte_shares b bytes o x) ≡ 0) → IsUnsure b box o x

-- a cell has at most one error, and none where the masses are unsure
abbrev pub ErrorsOnCellsAreOne : Type 0
ErrorsOnCellsAreOne =
    (b : Block) (cell : List Interval) (o : ℕ) (x : Output) (h n m : ℕ) → IsBox cell → IsErrorOnCell b cell o x h n
    → IsErrorOnCell b cell o x h m → n ≡ m

abbrev pub UnsureCellsHaveNone : Type 0
UnsureCellsHaveNone =
    (b : Block) (cell : List Interval) (o : ℕ) (x : Output) (h n : ℕ) → IsBox cell → output_at b o ≡ Some x
    → IsUnsure b cell o x → IsErrorOnCell b cell o x h n → ⊥

-- over bytes, by the masses at their places from k on: their sum, and that of the singletons' bytes by them
abbrev pub mass_sum : (ℕ → ℕ) → ℕ → List Dec → ℕ
mass_sum g k [] = 0
mass_sum g k (u ∷ us) = g k + mass_sum g (k + 1) us

abbrev pub dot_sum : (ℕ → ℕ) → Output → ℕ → List Dec → ℕ
dot_sum g x k [] = 0
dot_sum g x k (u ∷ us) = nearest_byte x u * g k + dot_sum g x (k + 1) us

-- the answer over bytes
abbrev pub answer_by : (ℕ → ℕ) → ℕ → Output → ℕ → ℕ
answer_by g h x before =
    if mass_sum g 0 x.singletons == 0 then resting_answer h x before
    else h * dot_sum g x 0 x.singletons / mass_sum g 0 x.singletons
