use Rattle.std.proofs.Common.{◌≡◌, ◌∙◌, ap, sym, subst}
use Rattle.cpu12_emul.specs.Step.{Whole}
use Rattle.run_forms.specs.SampleRests.{before_takes, after_takes, after_state}
use Rattle.run_forms.proofs.SampleRests.{over_there, stepped_here, stuck_here}
use Rattle.run_forms.proofs.boundary.pass.Goals as goal

pub returns-then-st-clause-ends : goal.returns-then-st-clause-ends
returns-then-st-clause-ends g c =
    let a = c.args in
    λ e. over_there a.m.now.flags (g.F.SampleForm.harness a.form.now) a.requests.now a.st.now a.m.now.state c.if-st.true

pub returns-then-not-step_on-clause-ends : goal.returns-then-not-step_on-clause-ends
returns-then-not-step_on-clause-ends g c =
    let a = c.args in
    let w = c.step_on.ensures.stuck c.if-not-step_on.true in
    λ e. stuck_here a.m.now.flags (g.F.SampleForm.harness a.form.now) a.requests.now a.st.now a.m.now.state w.0
    c.if-st.false w.1

pub returns-clause-goes : goal.returns-clause-goes
returns-clause-goes g c =
    let a = c.args in
    let h = g.F.SampleForm.harness a.form.now in
    let flags = a.m.now.flags in
    let qs = a.requests.now in
    let s = a.m.now.state in
    let step = c.step_on.new in
    let n = c.come.new in
    let w = c.step_on.ensures.goes c.if-not-step_on.false in
    let came : after_takes flags h qs n.st n.m.state ≡ before_takes flags h qs step.st step.m.state =
    subst (λ (w : Whole). after_takes w.flags h qs n.st n.m.state ≡ before_takes w.flags h qs step.st step.m.state)
    c.step_on.ensures.machine c.come.ensures.rest in
    λ e. stepped_here flags h qs a.st.now step.st s step.m.state w.0 c.if-st.false w.1 w.2
    ∙ ap (after_state s) (sym came)
