use Rattle.std.proofs.Common.{ℕ, ◌≤◌, ◌+◌, ◌<◌, sym, subst, List, length}
use Rattle.std.specs.Prelude.{IfSome, slice_index}
use Rattle.fuzzy_meaning.specs.Blocks.{output_at}
use Rattle.error_bound.specs.{declared.boxes.Interval.Interval, Boxes.IsBox}
use Rattle.cell_bounds.specs.CellBounds.{IsCellsBound, IsFirstCellAbove, cell_count}
use Rattle.cell_bounds.specs.Walks.{AreAtMost}
use Rattle.error_bound.specs.Reaches.{parts_of}
use Rattle.error_certifier.specs.Halving.{IsWidest}
use Rattle.error_certifier.proofs.HalveLemmas.{cells_found, cells_stuck, cells_split}
use Rattle.error_certifier.proofs.halving.Task.cells_leaf.Goals as goal

pub returns-then-not-has_few_cells-clause-piece : goal.returns-then-not-has_few_cells-clause-piece
returns-then-not-has_few_cells-clause-piece c =
    let w = c.args.self.now in
    let b = c.args.table.now.table.now.block.now in
    let box = c.args.table.now.bytes.0.items in
    let e = c.narrowed-narrow.ensures.narrowed in
    cells_split b (parts_of c.args.table.now) w.targets.items box c.widest-place.result.0 c.widest-place.result.1
    (subst (λ (x : List Interval). IsBox x) e c.narrowed-narrow.ensures.bytes.intervals) c.requires.above
    (λ few.
    let t = c.has_few_cells.ensures.1 (subst (λ (x : List Interval). cell_count x ≤ 64) (sym e) few) in
    let f = c.if-not-has_few_cells.true in
    absurd (let z : ⊥ = cc in z))
    (subst (λ (x : List Interval). IsWidest x c.widest-place.result.0 c.widest-place.result.1) e c.widest-place.ensures)

pub returns-in-Ok-clause-piece : goal.returns-in-Ok-clause-piece
returns-in-Ok-clause-piece c =
    let w = c.args.self.now in
    let b = c.args.table.now.table.now.block.now in
    let box = c.args.table.now.bytes.0.items in
    let e = c.narrowed-narrow.ensures.narrowed in
    cells_found b (parts_of c.args.table.now) w.targets.items box c.in-Ok.bounds c.requires.targets c.requires.above
    (subst (λ (x : List Interval). cell_count x ≤ 64) e (c.has_few_cells.ensures.0 c.if-not-has_few_cells.false))
    (c.narrowed_boxes_stand_for_all.ensures b (parts_of c.args.table.now) box c.requires.table.table.valid c.requires.table.box_is)
    (subst (λ (x : List Interval). (k : ℕ) → k < length b.outputs → IfSome (output_at b (k + 1))
    (λ y. IsCellsBound b x (k + 1) y (parts_of c.args.table.now) (slice_index c.in-Ok.bounds k))) e c.in-Ok.ensures.bounds)
    (subst (λ (ts : List ℕ). AreAtMost ts c.in-Ok.bounds) c.as_slice.ensures.value c.in-Ok.ensures.within)

pub returns-in-Err-clause-stuck : goal.returns-in-Err-clause-stuck
returns-in-Err-clause-stuck c =
    let w = c.args.self.now in
    let b = c.args.table.now.table.now.block.now in
    let box = c.args.table.now.bytes.0.items in
    let a = c.in-Err.above in
    let e = c.narrowed-narrow.ensures.narrowed in
    cells_stuck b (parts_of c.args.table.now) w.targets.items box c.requires.above
    (subst (λ (x : List Interval). cell_count x ≤ 64) e (c.has_few_cells.ensures.0 c.if-not-has_few_cells.false))
    (c.narrowed_boxes_stand_for_all.ensures b (parts_of c.args.table.now) box c.requires.table.table.valid c.requires.table.box_is)
    a.bytes a.out a.bound
    (subst (λ (x : List Interval). IsFirstCellAbove b (parts_of c.args.table.now) w.targets.items 1 (length b.outputs) x a.bytes.items
    a.out a.bound) e
    (subst (λ (ts : List ℕ). IsFirstCellAbove b (parts_of c.args.table.now) ts 1 (length b.outputs) c.narrowed-narrow.result.0.items
    a.bytes.items a.out a.bound) c.as_slice.ensures.value c.in-Err.ensures.above))
