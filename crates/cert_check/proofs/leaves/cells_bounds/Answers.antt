use Rattle.std.proofs.Common.{ℕ, ◌≤◌, ◌+◌, ◌<◌, sym, subst, List, length}
use Rattle.std.specs.Prelude.{IfSome, slice_index}
use Rattle.fuzzy_meaning.specs.Blocks.{output_at}
use Rattle.error_bound.specs.declared.boxes.Interval.{Interval}
use Rattle.cell_bounds.specs.CellBounds.{IsCellsBound, IsFirstUnsure, cell_count}
use Rattle.error_bound.specs.Reaches.{parts_of}
use Rattle.cert_check.proofs.LeafLemmas.{has_cells_bounds, too_many_cells, unsure_cell}
use Rattle.cert_check.proofs.leaves.cells_bounds.Goals as goal

pub returns-then-not-has_few_cells-clause-fault : goal.returns-then-not-has_few_cells-clause-fault
returns-then-not-has_few_cells-clause-fault c =
    let b = c.args.table.now.table.now.block.now in
    let box = c.args.table.now.bytes.0.items in
    let same = c.narrowed-narrow.ensures.narrowed in
    too_many_cells b (parts_of c.args.table.now) box c.args.line c.requires.table.valid.some_output
    (λ few.
    let t = c.has_few_cells.ensures.1 (subst (λ (x : List Interval). cell_count x ≤ 64) (sym same) few) in
    let f = c.if-not-has_few_cells.true in
    absurd (let z : ⊥ = cc in z))

pub returns-in-Ok-clause-bounds : goal.returns-in-Ok-clause-bounds
returns-in-Ok-clause-bounds c =
    let b = c.args.table.now.table.now.block.now in
    let box = c.args.table.now.bytes.0.items in
    let h = (parts_of c.args.table.now) in
    let same = c.narrowed-narrow.ensures.narrowed in
    has_cells_bounds b h box c.in-Ok.bounds
    (subst (λ (x : List Interval). cell_count x ≤ 64) same (c.has_few_cells.ensures.0 c.if-not-has_few_cells.false))
    (c.narrowed_boxes_stand_for_all.ensures b h box c.requires.table.valid c.requires.box_is)
    (subst (λ (x : List Interval). (k : ℕ) → k < length b.outputs → IfSome (output_at b (k + 1))
    (λ y. IsCellsBound b x (k + 1) y h (slice_index c.in-Ok.bounds k))) same c.in-Ok.ensures.bounds)

pub returns-in-Err-clause-fault : goal.returns-in-Err-clause-fault
returns-in-Err-clause-fault c =
    let b = c.args.table.now.table.now.block.now in
    let box = c.args.table.now.bytes.0.items in
    let h = (parts_of c.args.table.now) in
    let same = c.narrowed-narrow.ensures.narrowed in
    unsure_cell b h box c.args.line c.in-Err.out
    (subst (λ (x : List Interval). cell_count x ≤ 64) same (c.has_few_cells.ensures.0 c.if-not-has_few_cells.false))
    ((c.narrowed_boxes_stand_for_all.ensures b h box c.requires.table.valid c.requires.box_is).unsure c.in-Err.out
    (subst (λ (x : List Interval). IsFirstUnsure b h x c.in-Err.out) same c.in-Err.ensures.unsure))
