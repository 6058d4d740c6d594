use Rattle.std.proofs.Common.{◌≡◌, length, take}
use Rattle.error_bound.specs.Matters.{narrowed}
use Rattle.error_bound.proofs.tables.BoxTable.narrowed.Given as goal

abbrev pub invariant-loop-k : goal.invariant-loop-k
invariant-loop-k l = record {
  count : length l.narrow.items ≡ l.k;
  items : l.narrow.items ≡ take l.k (narrowed l.self.table.now.block.now l.self.bytes.0.items);
}
