-- Laws of boxes and their errors.
-- Beside the promise.
use Rattle.std.specs.Prelude.{length, ◌≡◌, ℕ, ◌≤◌, ◌==◌, List, slice_get, Some}
use Rattle.fz_num.specs.Decimals.{distance}
use Rattle.fuzzy_meaning.specs.{declared.block.Block.Block, declared.block.Input.Input}
use Rattle.fuzzy_meaning.specs.{declared.block.Trapezoid.Trapezoid, declared.block.Output.Output, Places.points_of}
use Rattle.fuzzy_meaning.specs.Blocks.{IsValid, IsValidInput, IsValidTerm, output_at}
use Rattle.byte_scaling.specs.Cells.{cell_start, cell_end}
use Rattle.error_bound.specs.declared.{boxes.Interval.Interval, boxes.Leaf.Leaf}
use Rattle.error_bound.specs.{Places.AreBounds, Boxes.IsBox, Boxes.degrees_over, Errors.AreTermErrors}
use Rattle.error_bound.specs.{CellErrors.term_errors, Leaves.Holds, Bounds.IsBound}

abbrev pub CellsHaveBounds : Type 0
CellsHaveBounds =
    (i : Input) (t : Trapezoid) (v : Interval) → IsValidInput i → IsValidTerm i.lo i.hi t → v.from ≤ v.to →
    let w = distance i.lo i.hi in
    AreBounds (points_of i t) (cell_start w v.from) (cell_end w v.to) (v.to == 255)
    (degrees_over i t v).low (degrees_over i t v).high

-- over a box the fall of each term is the greatest at the low of a cell, its rise the greatest at the high of one
abbrev pub TermErrorsAre : Type 0
TermErrorsAre = (b : Block) (box : List Interval) → IsValid b → IsBox box → AreTermErrors b box (term_errors b box)

-- each interval of the first lies within that of the second
pub record IsInside (small box : List Interval) : Type 0 where
  pub count : length small ≡ length box
  pub within : (k : ℕ) (u v : Interval) → slice_get small k ≡ Some u → slice_get box k ≡ Some v
      → (v.from ≤ u.from) × (u.to ≤ v.to)

-- a leaf that holds on a box holds on each box inside it
abbrev pub LeavesHoldInside : Type 0
LeavesHoldInside =
    (b : Block) (small box : List Interval) (o : ℕ) (leaf : Leaf) → IsValid b → length box ≡ length b.inputs
    → IsInside small box → IsBox small → Holds b box o leaf → Holds b small o leaf

-- and its Bound there is no greater
abbrev pub BoundsFallInside : Type 0
BoundsFallInside =
    (b : Block) (small box : List Interval) (o : ℕ) (x : Output) (h : ℕ) (leaf : Leaf) (n m : ℕ) → IsValid b
    → output_at b o ≡ Some x → 1 ≤ h → length box ≡ length b.inputs → IsInside small box → IsBound b small o x h leaf n
    → IsBound b box o x h leaf m → n ≤ m

-- nor is it for answers in more parts to a byte than one
abbrev pub BoundsFallWithParts : Type 0
BoundsFallWithParts =
    (b : Block) (box : List Interval) (o : ℕ) (x : Output) (h : ℕ) (leaf : Leaf) (n : ℕ) → IsValid b
    → output_at b o ≡ Some x
    → 1 ≤ h → IsBound b box o x 1 leaf n → (m : ℕ) × IsBound b box o x h leaf m × (m ≤ n)

-- a leaf has one Bound on a box
abbrev pub BoundsAreDetermined : Type 0
BoundsAreDetermined =
    (b : Block) (box : List Interval) (o : ℕ) (x : Output) (h : ℕ) (leaf : Leaf) (n m : ℕ) → IsValid b
    → length box ≡ length b.inputs → IsBound b box o x h leaf n → IsBound b box o x h leaf m → n ≡ m
