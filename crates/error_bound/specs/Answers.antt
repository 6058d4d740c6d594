-- The answers over bytes are near the exact ones.
-- Beside the promise.
use Rattle.std.specs.Prelude.{◌≡◌, ◌≢◌, ℕ, ◌≤◌, List, Some, None}
use Rattle.fz_num.specs.{declared.dec.Dec.Dec, Decimals.distance, Fractions.Quotient, Fractions.IsClose}
use Rattle.fuzzy_meaning.specs.declared.{block.Block.Block, block.Output.Output}
use Rattle.fuzzy_meaning.specs.{Blocks.output_at, Blocks.IsValid, Meaning.answer_after}
use Rattle.byte_scaling.specs.Cells.{value_in}
use Rattle.point_slope.specs.Bytes.{answer_in}
use Rattle.error_bound.specs.declared.{boxes.Interval.Interval, boxes.Leaf.Leaf}
use Rattle.error_bound.specs.{Boxes.LieIn, Boxes.LieInCells, Leaves.Holds, Bounds.IsBound}

-- answer q' with the value p' follows answer q, and the exact answer `after` follows `before`: where NC keeps the
-- answer both are those before, else p' is near `after`
pub record Follows (x : Output) (leaf : Leaf) (n : ℕ) (q q' : ℕ) (p' before after : Quotient) : Type 0 where
  pub kept : leaf.k ≡ 0 → x.default ≡ None → (q' ≡ q) × (after ≡ before)
  pub near : (leaf.k ≡ 0 → x.default ≢ None) → IsClose (distance x.lo x.hi) n p' after

-- a leaf's pair holds on a box with Bound n, for answers in h parts to a byte; the numbers lie in the cells of their
-- bytes, and these lie in the box
pub record IsOnLeaf (b : Block) (box : List Interval) (o : ℕ) (x : Output) (h : ℕ) (leaf : Leaf) (n : ℕ)
    (bytes : List ℕ) (xs : List Dec) : Type 0 where
  pub valid : IsValid b
  pub output_is : output_at b o ≡ Some x
  pub parts : 1 ≤ h
  pub cells : LieInCells b bytes xs
  pub box_is : LieIn box bytes
  pub holds : Holds b box o leaf
  pub bound_is : IsBound b box o x h leaf n

-- an answer over bytes, in one part or in 256, is within the Bound of the exact answer
abbrev pub AnswersAreNear : Type 0
AnswersAreNear =
    (b : Block) (box : List Interval) (o : ℕ) (x : Output) (h : ℕ) (leaf : Leaf) (n : ℕ) (bytes : List ℕ)
    (xs : List Dec) (before : Quotient) (q : ℕ) →
    IsOnLeaf b box o x h leaf n bytes xs
    → Follows x leaf n q (answer_in h b o bytes q)
    (value_in h x (answer_in h b o bytes q)) before (answer_after b o before xs)
