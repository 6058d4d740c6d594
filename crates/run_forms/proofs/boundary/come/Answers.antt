use Rattle.std.proofs.Common.{◌∙◌, nat_lt, sym, arith}
use Rattle.run_forms.proofs.SampleRests.{over_here, spent_here, taken_here, takes_are, with_taken}
use Rattle.run_forms.proofs.Takings.{next_tells}
use Rattle.run_forms.specs.Forms.{plan_form}
use Rattle.run_forms.proofs.boundary.come.Goals as goal

pub returns-then-ends-clause-rest : goal.returns-then-ends-clause-rest
returns-then-ends-clause-rest g c =
    let a = c.args in
    over_here a.m.now.flags (g.F.SampleForm.harness a.form.now) a.requests.now a.st.now a.m.now.state
    (sym c.ends.ensures ∙ c.if-ends.true)

pub returns-then-st-eq0-clause-rest : goal.returns-then-st-eq0-clause-rest
returns-then-st-eq0-clause-rest g c =
    let a = c.args in
    spent_here a.m.now.flags (g.F.SampleForm.harness a.form.now) a.requests.now a.st.now a.m.now.state c.if-st-eq0.true
    (sym c.ends.ensures ∙ c.if-ends.false ∙ sym c.requires.arrives.on.1)

pub returns-clause-rest : goal.returns-clause-rest
returns-clause-rest g c =
    let a = c.args in
    let st = a.st.now in
    let n = c.take_due.new in
    let some = c.if-st-eq0.false in
    let h = g.F.SampleForm.harness a.form.now in
    let takes = takes_are h.notes st n.t c.resumed_here.result (nat_lt st.counts.next n.t.next)
    c.take_due.ensures.rest c.requires.arrives.on.1
    (omega (arith, some)) c.resumed_here.ensures.one
    (next_tells (plan_form a.m.now.flags h.parts) st.counts.moment a.requests.now st.counts.next n.t.next a.m.now.state
    n.m.state (h.notes.frames st.counts.notes) (h.notes.frames n.t.notes) (h.notes.told st.counts.notes)
    (h.notes.told n.t.notes) c.take_due.ensures.takes c.take_due.ensures.next) in
    taken_here a.m.now.flags (g.F.SampleForm.harness a.form.now) a.requests.now st
    (with_taken st n.t c.resumed_here.result)
    a.m.now.state n.m.state (nat_lt st.counts.next n.t.next) c.requires.arrives.on.0
    (sym c.ends.ensures ∙ c.if-ends.false) takes
    c.take_due.ensures.takes
