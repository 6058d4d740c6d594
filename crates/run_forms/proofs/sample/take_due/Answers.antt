use Rattle.std.proofs.Common.{◌≡◌, ◌∙◌, ℕ, false, drop, ap, sym, subst}
use Rattle.run_forms.specs.{Forms.moment_in, Forms.plan_form, Rest.is_due}
use Rattle.run_forms.proofs.Takings.{takes_end}
use Rattle.run_forms.proofs.sample.take_due.Goals as goal

pub returns-clause-takes : goal.returns-clause-takes
returns-clause-takes g c =
    let l = c.loop-m in
    let a = c.args in
    let h = g.F.SampleForm.harness a.form.now in
    let moment = moment_in h.parts.place in
    let left = drop l.t.next a.requests.now in
    let same : l.t.moment ≡ a.t.now.moment = ap (λ t. t.moment) l.invariant.rest in
    let off : is_due moment a.t.now.moment left l.m.state ≡ false =
    subst (λ (k : ℕ). is_due moment k left l.m.state ≡ false) same (sym c.is_due.ensures ∙ c.loop-m-test.false) in
    l.invariant.takes
    ∙ takes_end (plan_form a.m.now.flags h.parts) a.t.now.moment left l.m.state
    (h.notes.frames l.t.notes) (h.notes.told l.t.notes) off
