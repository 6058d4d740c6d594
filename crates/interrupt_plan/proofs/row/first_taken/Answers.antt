use Rattle.std.proofs.Common.{arith, sym}
use Rattle.interrupt_plan.proofs.PlanLemmas.{blank, free_all, free_more, taken_at}
use Rattle.interrupt_plan.proofs.row.first_taken.Goals as goal

pub returns-then-not-is_free : goal.returns-then-not-is_free
returns-then-not-is_free c =
    taken_at c.args.writes.now c.loop-write.write-index blank c.loop-write-test.true c.loop-write.invariant
    (sym c.if-not-is_free.ensures)

pub loop-write-preserved : goal.loop-write-preserved
loop-write-preserved c =
    free_more c.args.writes.now c.loop-write.write-index blank c.loop-write-test.true c.loop-write.invariant
    (sym c.if-not-is_free.ensures)

pub returns : goal.returns
returns c = free_all c.args.writes.now c.loop-write.write-index (omega arith) c.loop-write.invariant
