use Rattle.std.proofs.Common.{◌∙◌, ◌-◌, ap, sym, arith}
use Rattle.cpu12_emul.specs.Step.{Next, Whole}
use Rattle.run_forms.specs.Rows.{arrival}
use Rattle.run_forms.proofs.Arrivals.{arrives, arrives_later, arrives_never, arrives_spent}
use Rattle.run_forms.proofs.runs.arrive.Goals as goal

pub returns-then-regs-loop_at-clause-state : goal.returns-then-regs-loop_at-clause-state
returns-then-regs-loop_at-clause-state g c =
    let l = c.loop-left in
    sym (arrives l.m.flags c.args.loop_at l.left l.m.state
    (sym (ap (λ r. r.pc) c.regs.ensures) ∙ c.if-regs-loop_at.true)) ∙ l.invariant.same

pub returns-in-Err-clause-state : goal.returns-in-Err-clause-state
returns-in-Err-clause-state g c =
    let l = c.loop-left in
    ap (λ w. w.state) c.in-Err.ensures.next.2
    ∙ sym (arrives_never l.m.flags c.args.loop_at l.left l.m.state c.in-Err.field-0.byte
    (λ e. c.if-regs-loop_at.false (ap (λ r. r.pc) c.regs.ensures ∙ e)) c.in-Err.ensures.next.0)
    ∙ l.invariant.same

pub loop-left-preserved : goal.loop-left-preserved
loop-left-preserved g c =
    let l = c.loop-left in
    let next : Next = record { state = c.step.new.self.state; kind = c.in-Ok.field-0 } in
    record {
      same = ap (λ (w : Whole). arrival w.flags c.args.loop_at (l.left - 1) c.step.new.self.state)
          c.step.ensures.machine
          ∙ sym (arrives_later l.m.flags c.args.loop_at l.left l.m.state next
          (λ e. c.if-regs-loop_at.false (ap (λ r. r.pc) c.regs.ensures ∙ e)) c.loop-left-test.true
          c.in-Ok.ensures.next)
          ∙ l.invariant.same;
      machine = c.step.ensures.machine
          ∙ ap (λ (w : Whole). record w { state = c.step.new.self.state }) l.invariant.machine;
    }

pub returns-clause-state : goal.returns-clause-state
returns-clause-state g c =
    let l = c.loop-left in
    sym (arrives_spent l.m.flags c.args.loop_at l.left l.m.state (omega arith)) ∙ l.invariant.same
