use Rattle.std.proofs.Common.{◌∙◌, ◌-◌, ap, sym, arith}
use Rattle.cpu12_emul.specs.Step.{Whole}
use Rattle.handler_check.specs.Running.{one_step, until_rti}
use Rattle.handled_runs.proofs.Returns.{back_now, back_later, back_never, back_spent, leads_by, told_by}
use Rattle.handled_runs.proofs.back.until_rti.Goals as goal

pub returns-then-returns : goal.returns-then-returns
returns-then-returns g c =
    let l = c.loop-left in
    let now = back_now l.m.flags l.left l.m.state _ _ _ c.loop-left-test.true c.in-Ok.ensures.next c.regs.ensures
    c.peek-returns.ensures c.if-returns.true in
    let leads = leads_by _ _ _ _ now l.invariant.state l.invariant.steps l.invariant.done in
    record {
      state = leads.state;
      end = told_by _ _ _ _ _ c.ended.ensures (omega (arith, l.invariant.few, c.loop-left-test.true)) leads;
      machine = c.step.ensures.machine
          ∙ ap (λ (w : Whole). record w { state = c.step.new.self.state }) l.invariant.machine;
    }

pub loop-left-preserved : goal.loop-left-preserved
loop-left-preserved g c =
    let l = c.loop-left in
    let later = back_later l.m.flags l.left l.m.state _ _ _ c.loop-left-test.true c.in-Ok.ensures.next
    c.regs.ensures c.peek-returns.ensures c.if-returns.false
    ∙ ap (λ (w : Whole). one_step (until_rti w.flags (l.left - 1) c.step.new.self.state))
    (sym c.step.ensures.machine) in
    let leads = leads_by _ _ _ _ later l.invariant.state l.invariant.steps l.invariant.done in
    record {
      state = leads.state;
      steps = omega (arith, leads.counts, l.invariant.few, c.loop-left-test.true);
      done = leads.done;
      few = omega (arith, l.invariant.few);
      machine = c.step.ensures.machine
          ∙ ap (λ (w : Whole). record w { state = c.step.new.self.state }) l.invariant.machine;
    }

pub returns-in-Err-clause-state : goal.returns-in-Err-clause-state
returns-in-Err-clause-state g c =
    let l = c.loop-left in
    let never = back_never l.m.flags l.left l.m.state c.in-Err.field-0.byte c.in-Err.ensures.next.0 in
    ap (λ w. w.state) c.in-Err.ensures.next.2
    ∙ (leads_by _ _ _ _ never l.invariant.state l.invariant.steps l.invariant.done).state

pub returns-in-Err-clause-end : goal.returns-in-Err-clause-end
returns-in-Err-clause-end g c =
    let l = c.loop-left in
    let never = back_never l.m.flags l.left l.m.state c.in-Err.field-0.byte c.in-Err.ensures.next.0 in
    told_by _ _ _ _ _ c.ended-in-Err.ensures (omega arith)
    (leads_by _ _ _ _ never l.invariant.state l.invariant.steps l.invariant.done)

pub returns-clause-state : goal.returns-clause-state
returns-clause-state g c =
    let l = c.loop-left in
    let spent = back_spent l.m.flags l.left l.m.state (omega arith) in
    (leads_by _ _ _ _ spent l.invariant.state l.invariant.steps l.invariant.done).state

pub returns-clause-end : goal.returns-clause-end
returns-clause-end g c =
    let l = c.loop-left in
    let spent = back_spent l.m.flags l.left l.m.state (omega arith) in
    told_by _ _ _ _ _ c.ended-2.ensures (omega arith)
    (leads_by _ _ _ _ spent l.invariant.state l.invariant.steps l.invariant.done)
