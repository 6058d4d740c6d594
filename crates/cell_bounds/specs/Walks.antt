-- The cells of a box, gone through one after the other.
-- Beside the promise.
use Rattle.std.specs.Prelude.{ℕ, ◌+◌, ◌-◌, ◌<◌, ◌≤◌, List, [], ◌∷◌, length, IfSome, slice_index}
use Rattle.std.specs.List.{sum_by}
use Rattle.fuzzy_meaning.specs.declared.{block.Block.Block, block.Output.Output}
use Rattle.fuzzy_meaning.specs.Blocks.{output_at}
use Rattle.error_bound.specs.{declared.boxes.Interval.Interval, Reaches.IsBlockTable}
use Rattle.byte_scaling.specs.Widths.{parts}
use Rattle.cell_bounds.specs.{declared.walks.Walk.Walk, declared.walks.CellAbove.CellAbove}
use Rattle.cell_bounds.specs.CellBounds.{CellsAreWithin, IsFirstCellAbove}

-- a walk over outputs of a block
pub record IsWalk (w : Walk) : Type 0 where
  pub table : IsBlockTable w.table.now
  pub limits : (k : ℕ) → slice_index w.limits.now k ≤ 1000000
  pub end : w.end ≤ length w.table.now.block.now.outputs
  pub all : w.end ≤ length w.limits.now

-- a number is raised to the greatest of itself and the Bounds of a box's cells
pub record IsRaised (b : Block) (box : List Interval) (o : ℕ) (x : Output) (h old new : ℕ) : Type 0 where
  pub within : CellsAreWithin b box o x h new
  pub above : old ≤ new
  pub least : (m : ℕ) → CellsAreWithin b box o x h m → old ≤ m → new ≤ m

-- those of the outputs at the places from p to below q
abbrev pub AreRaised : Block → ℕ → ℕ → ℕ → List Interval → List ℕ → List ℕ → Type 0
AreRaised b h p q box olds news =
    (k : ℕ) → p ≤ k → k < q
    → IfSome (output_at b (k + 1)) (λ x. IsRaised b box (k + 1) x h (slice_index olds k) (slice_index news k))

-- each is at most the number at its place
abbrev pub AreAtMost : List ℕ → List ℕ → Type 0
AreAtMost numbers values = (k : ℕ) → k < length numbers → slice_index values k ≤ slice_index numbers k

-- the whole range of each output
abbrev pub whole_ranges : List ℕ
whole_ranges = 1000000 ∷ 1000000 ∷ 1000000 ∷ 1000000 ∷ []

-- how often a box may be cut
abbrev pub cuts_of : List Interval → ℕ
cuts_of box = sum_by (λ v. v.to - v.from) box

-- ---- what a walk looks for in a box

abbrev pub AreRaisedBy : Walk → List Interval → List ℕ → List ℕ → Type 0
AreRaisedBy w box olds news =
    AreRaised w.table.now.block.now (parts w.table.now.width) w.first w.end box olds news

abbrev pub IsFirstFound : Walk → List Interval → CellAbove → Type 0
IsFirstFound w box a =
    IsFirstCellAbove w.table.now.block.now (parts w.table.now.width) w.limits.now (w.first + 1) w.end box a.bytes.items
    a.out a.bound
