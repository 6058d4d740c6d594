-- What the masses of an output's terms lie between over a box, and the answers that this allows.
-- Beside the promise.
use Rattle.std.specs.Prelude.{◌≡◌, ℕ, ◌+◌, ◌*◌, ◌<◌, ◌≤◌, List, length, All, Some, None}
use Rattle.std.specs.Option.{option_map_or}
use Rattle.fz_num.specs.{declared.dec.Dec.Dec, Decimals.distance, Fractions.Quotient, Fractions.IsClose}
use Rattle.cell_error.specs.{declared.ranges.MassRange.MassRange, declared.ranges.Answer.Answer, Errors.Covers}
use Rattle.cell_error.specs.Errors.{sure_mass, IsRange}
use Rattle.fuzzy_meaning.specs.declared.{block.Block.Block, block.Output.Output}
use Rattle.fuzzy_meaning.specs.{Blocks.output_at, Blocks.IsValid, Meaning.answer_after}
use Rattle.byte_scaling.specs.Cells.{value_in}
use Rattle.error_bound.specs.declared.boxes.Interval.{Interval}
use Rattle.error_bound.specs.{Boxes.IsBox, Boxes.LieIn, Boxes.LieInCells, Tight.low_of, Tight.high_of, Tight.ranges_at}

-- of output o over a box; terms count from 1
abbrev pub ranges : Block → List Interval → ℕ → Output → List MassRange
ranges b box o x = ranges_at (λ k. low_of b box o (k + 1)) (λ k. high_of b box o (k + 1)) x.lo 0 x.singletons

-- an answer in h parts to a byte
abbrev pub answer_at : ℕ → Output → ℕ → Answer
answer_at h x q = record { value = q; parts = 255 * h; width = distance x.lo x.hi }

-- how far the DEFAULT is above the low end; NC has none
abbrev pub rest_of : Output → ℕ
rest_of x = option_map_or (λ d. distance x.lo d) x.default 0

-- the numbers lie in the cells of their bytes, and these lie in the box
pub record AreOverBox (b : Block) (box : List Interval) (o : ℕ) (x : Output) (h : ℕ) (bytes : List ℕ) (xs : List Dec)
    : Type 0 where
  pub valid : IsValid b
  pub output_is : output_at b o ≡ Some x
  pub parts : 1 ≤ h
  pub cells : LieInCells b bytes xs
  pub box_is : IsBox box
  pub within : LieIn box bytes

-- an answer that is within n of the answers to all masses that the terms may have is within n of the exact answer; with
-- NC some mass has to be sure
abbrev pub AnswersToMassesAreNear : Type 0
AnswersToMassesAreNear =
    (b : Block) (box : List Interval) (o : ℕ) (x : Output) (h : ℕ) (bytes : List ℕ) (xs : List Dec) (n q : ℕ)
    (before : Quotient) → AreOverBox b box o x h bytes xs
    → (x.default ≡ None → 0 < sure_mass (ranges b box o x))
    → Covers (answer_at h x q) (ranges b box o x) (rest_of x) n
    → IsClose (distance x.lo x.hi) n (value_in h x q) (answer_after b o before xs)

-- masses are in range: no end is below the lower one, or above 255
abbrev pub MassesAreInRange : Type 0
MassesAreInRange =
    (b : Block) (box : List Interval) (o : ℕ) (x : Output) → IsValid b → length box ≡ length b.inputs → IsBox box
    → output_at b o ≡ Some x → All (IsRange (distance x.lo x.hi)) (ranges b box o x)
