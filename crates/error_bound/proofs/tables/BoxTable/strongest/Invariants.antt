use Rattle.error_bound.specs.Best.{IsCandidate}
use Rattle.error_bound.proofs.LeafLemmas.{IsStrongest}
use Rattle.error_bound.proofs.tables.BoxTable.strongest.Given as goal

abbrev pub invariant-loop-n : goal.invariant-loop-n
invariant-loop-n l = IsStrongest (IsCandidate l.self.table.now.block.now l.self.bytes.0.items l.out) l.n l.rule l.part
