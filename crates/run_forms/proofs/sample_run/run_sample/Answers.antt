use Rattle.std.proofs.Common.{◌∙◌, drop, ap, ap₂, sym}
use Rattle.cpu12_emul.specs.Step.{Whole}
use Rattle.run_forms.specs.{Forms.plan_form, Rest.counted_at, SampleRests.after_takes}
use Rattle.run_forms.proofs.Counting.{counted_few, next_on}
use Rattle.run_forms.proofs.sample_run.run_sample.Goals as goal

pub returns-clause-counted : goal.returns-clause-counted
returns-clause-counted g c =
    let h = g.F.SampleForm.harness c.args.form.now in
    let l = c.loop-m in
    let same = c.pass.ensures.same c.loop-m-test.false in
    ap₂ (λ st s. counted_at h.notes st.counts s) same.0 (ap (λ m. m.state) same.1)
    ∙ sym (ap (λ x. x.summary) (c.pass.ensures.ends c.loop-m-test.false))
    ∙ ap (λ (w : Whole). (after_takes w.flags h c.args.requests.now l.st l.m.state).summary) l.invariant.machine
    ∙ l.invariant.summary

pub returns-clause-left : goal.returns-clause-left
returns-clause-left g c =
    let h = g.F.SampleForm.harness c.args.form.now in
    let l = c.loop-m in
    let same = c.pass.ensures.same c.loop-m-test.false in
    ap (λ st. drop st.counts.next c.args.requests.now) same.0
    ∙ sym (ap (λ x. x.requests) (c.pass.ensures.ends c.loop-m-test.false))
    ∙ ap (λ (w : Whole). (after_takes w.flags h c.args.requests.now l.st l.m.state).requests) l.invariant.machine
    ∙ l.invariant.left

pub returns-clause-next : goal.returns-clause-next
returns-clause-next g c =
    let a = c.args in
    let h = g.F.SampleForm.harness a.form.now in
    let t = a.st.now.counts in
    let steady = c.pass.ensures.steady in
    next_on (plan_form a.m.now.flags h.parts) a.st.now.left t.moment t.inside a.requests.now t.next
    c.pass.new.st.counts.next a.m.now.state c.requires.next steady.next (returns-clause-left g c)

pub returns-clause-most : goal.returns-clause-most
returns-clause-most g c =
    let a = c.args in
    let h = g.F.SampleForm.harness a.form.now in
    (counted_few (plan_form a.m.now.flags h.parts) h.notes a.st.now.left a.requests.now a.st.now.counts
    c.pass.new.st.counts a.m.now.state c.pass.new.m.state (returns-clause-counted g c)).most

pub returns-clause-resumed : goal.returns-clause-resumed
returns-clause-resumed g c =
    let a = c.args in
    let h = g.F.SampleForm.harness a.form.now in
    λ arrived. (counted_few (plan_form a.m.now.flags h.parts) h.notes a.st.now.left a.requests.now a.st.now.counts
    c.pass.new.st.counts a.m.now.state c.pass.new.m.state (returns-clause-counted g c)).resumed arrived
    c.requires.counts.1
