use Rattle.std.proofs.Common.{arith}
use Rattle.error_bound.specs.Best.{IsCandidate}
use Rattle.error_bound.proofs.LeafLemmas.{IsStrongest-greater, IsStrongest-not_greater, IsFirstGreatest-strongest}
use Rattle.error_bound.proofs.tables.BoxTable.strongest.Goals.{then-k-part, else-k-part}
use Rattle.error_bound.proofs.LeafLemmas.{IsCandidate-strongest}
use Rattle.error_bound.proofs.tables.BoxTable.strongest.Goals as goal

pub loop-n-preserved : goal.loop-n-preserved
loop-n-preserved c =
    let P = IsCandidate c.args.self.now.table.now.block.now c.args.self.now.bytes.0.items c.args.out in
    let k = c.part_of_rule-k.ensures in
    elim c.if-k-part.branch [
      | then-k-part w ↦ rw (w.rule-is, w.part-is) (IsStrongest-greater P c.loop-n.n c.loop-n.rule c.loop-n.part
          c.part_of_rule-k.result c.loop-n.invariant k.only k.candidate w.if-k-part.true)
      | else-k-part w ↦ rw (w.rule-is, w.part-is) (IsStrongest-not_greater P c.loop-n.n c.loop-n.rule c.loop-n.part
          c.part_of_rule-k.result c.loop-n.invariant k.only (omega (arith, w.if-k-part.false)))
    ]

pub returns-then-part-eq0-clause-none : goal.returns-then-part-eq0-clause-none
returns-then-part-eq0-clause-none c =
    IsCandidate-strongest c.args.self.now.table.now.block.now c.args.self.now.bytes.0.items c.args.out c.loop-n.n c.loop-n.rule
    c.loop-n.part c.loop-n.invariant (omega (arith, c.loop-n-test.false, c.len-n-end.ensures)) c.if-part-eq0.true

pub returns-else-part-eq0-clause-greatest : goal.returns-else-part-eq0-clause-greatest
returns-else-part-eq0-clause-greatest c =
    IsFirstGreatest-strongest c.args.self.now.table.now.block.now c.args.self.now.bytes.0.items c.args.out c.loop-n.n c.loop-n.rule
    c.loop-n.part c.loop-n.invariant (omega (arith, c.loop-n-test.false, c.len-n-end.ensures))
