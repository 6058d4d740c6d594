use Rattle.std.proofs.Common.{◌+◌, arith, refl, subst, ◌∙◌}
use Rattle.csv.specs.Records.{fields_of}
use Rattle.interrupt_plan.specs.Rows.{RowFails}
use Rattle.interrupt_plan.proofs.PlanLemmas.{entries_more, fault_at, order_more, too_many}
use Rattle.interrupt_plan.proofs.reader.entries_in.Goals as goal

pub returns-then-at-eq-MOST_ROWS-clause-fault : goal.returns-then-at-eq-MOST_ROWS-clause-fault
returns-then-at-eq-MOST_ROWS-clause-fault g c = λ _.
    too_many (g.R.RowReader.spells c.args.reader.now) g.E.Entry.written g.E.Entry.not_after c.args.rows.now c.loop-at.at
    c.index-rows-at.result c.loop-at-test.true c.index-rows-at.is _ c.loop-at.invariant.spelled
    c.loop-at.invariant.order c.if-at-eq-MOST_ROWS.true

pub returns-in-Err-clause-fault : goal.returns-in-Err-clause-fault
returns-in-Err-clause-fault g c = λ want.
    fault_at (g.R.RowReader.spells c.args.reader.now) g.E.Entry.written g.E.Entry.not_after c.args.rows.now c.loop-at.at
    c.index-rows-at.result c.loop-at-test.true c.index-rows-at.is c.loop-at.entries.items
    c.loop-at.invariant.spelled c.loop-at.invariant.order
    c.in-Err.fault (c.loop-at.at + 1) refl (omega arith)
    (subst (λ before. RowFails (g.R.RowReader.spells c.args.reader.now) g.E.Entry.written g.E.Entry.not_after before
    (c.loop-at.at + 1) (fields_of c.index-rows-at.result) c.in-Err.fault) c.deref.ensures.value
    (c.in-Err.ensures.fault want))

pub loop-at-preserved : goal.loop-at-preserved
loop-at-preserved g c = record {
  few = omega arith;
  spelled = entries_more (g.R.RowReader.spells c.args.reader.now) g.E.Entry.written g.E.Entry.not_after c.args.rows.now
      c.loop-at.at c.index-rows-at.result c.loop-at-test.true c.index-rows-at.is _ c.loop-at.invariant.spelled
      c.loop-at.invariant.order c.in-Ok.entry _ c.in-Ok.ensures.entry c.in-Ok-push.ensures.items;
  order = order_more (g.R.RowReader.spells c.args.reader.now) g.E.Entry.written g.E.Entry.not_after c.args.rows.now
      c.loop-at.at c.index-rows-at.result c.loop-at-test.true c.index-rows-at.is c.loop-at.entries.items
      c.loop-at.invariant.spelled c.loop-at.invariant.order c.in-Ok.entry c.push.new.self.items
      c.in-Ok.ensures.free (λ front last is. c.in-Ok.ensures.ascends front last (c.deref.ensures.value ∙ is))
      (omega arith) c.in-Ok-push.ensures.items;
}
