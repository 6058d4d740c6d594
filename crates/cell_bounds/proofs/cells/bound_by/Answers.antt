use Rattle.error_bound.specs.Reaches.{parts_of}
use Rattle.cell_bounds.proofs.CellLemmas.{less_found}
use Rattle.cell_bounds.proofs.cells.bound_by.Goals as goal

pub returns : goal.returns
returns c =
    let t = c.requires in
    let e = c.error_by-error.ensures in
    let s = c.less.ensures in
    let found = less_found c.args.table.now.table.now.block.now c.args.table.now.bytes.0.items c.args.out (parts_of c.args.table.now) c.requires.out_from
    c.requires.out_to c.requires.table.table.valid c.requires.table.box_is c.tight_bounds_are_one.ensures
    c.args.tight c.error_by-error.result t.bound t.loud t.unsure e.error e.none c.tight_bounds_are_small.ensures e.small
    c.less.result s.one s.left s.right s.no_left s.no_right in
    record { bound = found.0; small = found.1; none = found.2 }
