use Rattle.std.proofs.Common.{◌≡◌, take, false, not}
use Rattle.std.specs.{Prelude.◌&&◌, List.list_any}
use Rattle.error_bound.specs.{Matters.asks_for, Tight.is_still}
use Rattle.error_bound.proofs.tables.BoxTable.matters.Given as goal

abbrev pub invariant-loop-n : goal.invariant-loop-n
invariant-loop-n l =
    list_any (λ r. asks_for l.self.table.now.block.now l.self.bytes.0.items l.input r.cond && not (is_still l.self.table.now.block.now l.self.bytes.0.items r))
    (take l.n l.self.table.now.block.now.rules) ≡ false
