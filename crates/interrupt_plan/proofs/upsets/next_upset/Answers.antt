use Rattle.std.proofs.Common.{◌-◌, take, length, sym}
use Rattle.interrupt_plan.specs.UpsetTexts.{unread, not_table, not_ascending}
use Rattle.interrupt_plan.proofs.{PlanLemmas.last_is, UpsetLemmas.good_upset}
use Rattle.interrupt_plan.proofs.upsets.next_upset.Goals as goal

pub returns-in-None-clause-fault : goal.returns-in-None-clause-fault
returns-in-None-clause-fault c = unread c.in-None.ensures

pub returns-then-not-is_table-clause-fault : goal.returns-then-not-is_table-clause-fault
returns-then-not-is_table-clause-fault c = not_table c.in-Some.upset c.in-Some.ensures (sym c.if-not-is_table.ensures)

pub returns-in-Some-last-clause-fault : goal.returns-in-Some-last-clause-fault
returns-in-Some-last-clause-fault c =
    not_ascending c.in-Some.upset c.in-Some.ensures (sym c.if-not-is_table.ensures) (record {
      front = take (length c.args.before.now - 1) c.args.before.now;
      last = c.in-Some-last.last.now;
      before_is = last_is c.args.before.now c.in-Some-last.last.now c.in-Some-last.ensures.value;
      falls = c.if-upset-last.true;
    })

pub returns-in_default-clause-good : goal.returns-in_default-clause-good
returns-in_default-clause-good c =
    good_upset c.args.image.now.bytes _ c.in-Some.upset c.in-Some.ensures (sym c.if-not-is_table.ensures)

pub returns-in_default-2-clause-good : goal.returns-in_default-2-clause-good
returns-in_default-2-clause-good c =
    good_upset c.args.image.now.bytes _ c.in-Some.upset c.in-Some.ensures (sym c.if-not-is_table.ensures)
