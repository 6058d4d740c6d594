use Rattle.std.proofs.Common.{◌≡◌, [], refl}
use Rattle.cpu12_parts.specs.State.{State}
use Rattle.run_forms.proofs.AtOnce.{PassesTo, passes_to}
use Rattle.run_forms.proofs.{at_once.pass_parts.Given.Over, at_once.pass_parts.Goals.After-count_parts}
use Rattle.run_forms.proofs.at_once.pass_parts.Goals as goal

passes : (g : Over) (c : After-count_parts g)
    → PassesTo g.F.SampleForm.fits c.args.m.now.flags (g.F.SampleForm.harness c.args.form.now) c.args.requests.now
    c.args.st.now c.count_parts.new.st c.args.m.now.state c.rule_parts-done.new.self.state
passes g c =
    let a = c.args in
    let h = g.F.SampleForm.harness a.form.now in
    let done = c.rule_parts-done in
    passes_to g.F.SampleForm.fits
    (λ (s : State). (s.regs.pc ≡ a.m.now.state.regs.pc) × (s.regs.sp ≡ a.m.now.state.regs.sp))
    a.m.now.flags h a.requests.now c.steps_alone-most.result done.result a.st.now c.count_parts.new.st a.m.now.state
    done.new.self.state
    (λ k s stays. c.goes_on_here.ensures c.if-not-goes_on_here.false k s stays.0 stays.1) c.if-st.false
    c.if-not-st.false
    c.requires.steady c.steps_alone-most.ensures.left c.steps_alone-most.ensures.none done.ensures.most
    done.ensures.steps c.count_parts.ensures

pub returns-then-st-clause-rest : goal.returns-then-st-clause-rest
returns-then-st-clause-rest g c = ([], refl)

pub returns-then-not-st-clause-rest : goal.returns-then-not-st-clause-rest
returns-then-not-st-clause-rest g c = ([], refl)

pub returns-then-not-goes_on_here-clause-rest : goal.returns-then-not-goes_on_here-clause-rest
returns-then-not-goes_on_here-clause-rest g c = ([], refl)

pub returns-clause-rest : goal.returns-clause-rest
returns-clause-rest g c = (passes g c).rest

pub returns-clause-steady : goal.returns-clause-steady
returns-clause-steady g c = (passes g c).steady
