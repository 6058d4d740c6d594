use Rattle.std.proofs.Common.{◌≡◌, ◌-◌, true, false, take, length, subst}
use Rattle.interrupt_plan.specs.Rows.{AreFree, IsFirstTaken, unread, not_free, not_ascending}
use Rattle.cpu12_isa.specs.declared.instr.Write.{Write}
use Rattle.std.specs.Prelude.{List}
use Rattle.interrupt_plan.proofs.PlanLemmas.{last_is}
use Rattle.interrupt_plan.proofs.reader.next_entry.Goals as goal

pub returns-in-Ok-None-clause-fault : goal.returns-in-Ok-None-clause-fault
returns-in-Ok-None-clause-fault g c = λ _. unread (rw c.in-Ok-None.field-0-is at c.in-Ok-None.ensures)

pub returns-in-Some-clause-fault : goal.returns-in-Some-clause-fault
returns-in-Some-clause-fault g c =
    λ _. not_free c.in-Ok-Some.entry c.in-Some.at (rw c.in-Ok-Some.field-0-is at c.in-Ok-Some.ensures)
    (subst (λ (ws : List Write). IsFirstTaken ws c.in-Some.at) c.writes.ensures c.in-Some.ensures)

pub returns-in-Some-last-clause-fault : goal.returns-in-Some-last-clause-fault
returns-in-Some-last-clause-fault g c = λ _.
    not_ascending c.in-Ok-Some.entry (rw c.in-Ok-Some.field-0-is at c.in-Ok-Some.ensures)
    (subst AreFree c.writes.ensures c.in_default.ensures) (record {
      front = take (length c.args.before.now - 1) c.args.before.now;
      last = c.in-Some-last.last.now;
      before_is = last_is c.args.before.now c.in-Some-last.last.now c.in-Some-last.ensures.value;
      falls = λ follows. let bad : false ≡ true = c.if-not-is_not_after.ensures.1 follows in cc;
    })

pub returns-in_default-last-clause-free : goal.returns-in_default-last-clause-free
returns-in_default-last-clause-free g c = subst AreFree c.writes.ensures c.in_default.ensures
