use Rattle.std.proofs.Common.{◌≡◌, ◌≤◌, ◌+◌, ◌-◌, ◌*◌, length, drop}
use Rattle.error_bound.specs.{CellErrors.term_errors, Bounds.errors_from}
use Rattle.error_bound.proofs.tables.BoxTable.sum_of_errors.Given as goal

abbrev pub invariant-loop-k : goal.invariant-loop-k
invariant-loop-k l =
    (l.sum ≤ 3000000000 * (length l.output.singletons - l.k))
    × (l.sum ≡ errors_from l.self.table.now.block.now (term_errors l.self.table.now.block.now l.self.bytes.0.items) l.out (l.k + 1)
    (drop l.k l.output.singletons))
