use Rattle.error_bound.proofs.LeafLemmas.{AreStillBefore}
use Rattle.error_bound.proofs.tables.BoxTable.silent_fault.Given as goal

abbrev pub invariant-loop-n : goal.invariant-loop-n
invariant-loop-n l = AreStillBefore l.self.table.now.block.now l.self.bytes.0.items l.out l.n
