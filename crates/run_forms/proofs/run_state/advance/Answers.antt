use Rattle.std.proofs.Common.{ap, arith}
use Rattle.run_forms.proofs.RunRests.{goes_here, last_here, next_here}
use Rattle.run_forms.proofs.run_state.advance.Goals as goal

pub returns-then-pass-clause-goes : goal.returns-then-pass-clause-goes
returns-then-pass-clause-goes g c =
    let a = c.args in
    let n = c.pass.new in
    λ e. goes_here a.m.now.flags (g.F.SampleForm.harness a.form.now) a.plan.now a.p.now n.st a.m.now.state n.m.state
    (c.pass.ensures.goes c.if-pass.true) (c.pass.ensures.moment c.if-pass.true)

pub returns-then-p-count-clause-ends : goal.returns-then-p-count-clause-ends
returns-then-p-count-clause-ends g c =
    let a = c.args in
    let all = c.if-p-count.true in
    let count = c.count.ensures in
    λ e. last_here a.m.now.flags (g.F.SampleForm.harness a.form.now) a.plan.now a.p.now a.m.now.state
    (c.pass.ensures.ends c.if-pass.false) (omega (arith, all, count))

pub returns-clause-goes : goal.returns-clause-goes
returns-clause-goes g c =
    let a = c.args in
    let past = c.pass.new in
    let n = c.give_next.new in
    let same = c.pass.ensures.same c.if-pass.false in
    λ e. next_here a.m.now.flags past.m.flags (g.F.SampleForm.harness a.form.now) a.plan.now a.p.now n.p past.st
    a.m.now.state past.m.state n.m.state (c.pass.ensures.ends c.if-pass.false) same.0 (ap (λ m. m.state) same.1)
    (ap (λ m. m.flags) c.pass.ensures.machine) c.give_next.ensures.rest
