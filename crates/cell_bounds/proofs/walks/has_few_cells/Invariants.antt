use Rattle.std.proofs.Common.{◌≡◌, min, drop}
use Rattle.cell_bounds.specs.CellBounds.{cell_count}
use Rattle.cell_bounds.proofs.walks.has_few_cells.Given as goal

abbrev pub invariant-loop-k : goal.invariant-loop-k
invariant-loop-k l = l.count ≡ min (cell_count (drop l.k l.intervals)) 65
