use Rattle.std.proofs.Common.{◌+◌, List, arith, refl, subst, ◌∙◌}
use Rattle.csv.specs.Records.{fields_of}
use Rattle.interrupt_plan.specs.{declared.upsets.Upset.Upset, UpsetTexts.UpsetRowFails}
use Rattle.interrupt_plan.proofs.UpsetLemmas.{fault_at, good_more, upsets_more, too_many}
use Rattle.interrupt_plan.proofs.upsets.upsets_in.Goals as goal

pub returns-then-at-eq-MOST_UPSETS-clause-fault : goal.returns-then-at-eq-MOST_UPSETS-clause-fault
returns-then-at-eq-MOST_UPSETS-clause-fault c = λ _.
    too_many c.args.image.now.bytes c.args.rows.now c.loop-at.at c.index-rows-at.result c.loop-at-test.true
    c.index-rows-at.is _ c.loop-at.invariant.spelled
    c.loop-at.invariant.good c.if-at-eq-MOST_UPSETS.true

pub returns-in-Err-clause-fault : goal.returns-in-Err-clause-fault
returns-in-Err-clause-fault c = λ _.
    fault_at c.args.image.now.bytes c.args.rows.now c.loop-at.at c.index-rows-at.result c.loop-at-test.true
    c.index-rows-at.is c.loop-at.upsets.items
    c.loop-at.invariant.spelled c.loop-at.invariant.good
    c.in-Err.fault (c.loop-at.at + 1) refl (omega arith)
    (subst (λ (before : List Upset). UpsetRowFails c.args.image.now.bytes before (c.loop-at.at + 1)
    (fields_of c.index-rows-at.result) c.in-Err.fault) c.deref.ensures.value
    c.in-Err.ensures.fault)

pub loop-at-preserved : goal.loop-at-preserved
loop-at-preserved c = record {
  few = omega arith;
  spelled = upsets_more c.args.image.now.bytes c.args.rows.now c.loop-at.at c.index-rows-at.result c.loop-at-test.true
      c.index-rows-at.is _ c.loop-at.invariant.spelled
      c.loop-at.invariant.good c.in-Ok.upset _ c.in-Ok.ensures.upset c.in-Ok-push.ensures.items;
  good = good_more c.args.image.now.bytes c.args.rows.now c.loop-at.at c.index-rows-at.result c.loop-at-test.true
      c.index-rows-at.is c.loop-at.upsets.items
      c.loop-at.invariant.spelled c.loop-at.invariant.good c.in-Ok.upset c.push.new.self.items
      c.in-Ok.ensures.good (λ front last is. c.in-Ok.ensures.ascends front last (c.deref.ensures.value ∙ is))
      (omega arith) c.in-Ok-push.ensures.items;
}
