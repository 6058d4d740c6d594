use Rattle.error_bound.proofs.CellErrors.{AreCellsBefore}
use Rattle.error_bound.proofs.cells.cells_under.Given as goal

abbrev pub invariant-loop-b : goal.invariant-loop-b
invariant-loop-b l = AreCellsBefore l.input l.term l.table l.fn.bytes.from l.b l.cells
