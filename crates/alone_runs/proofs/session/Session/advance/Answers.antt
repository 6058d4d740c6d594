use Rattle.std.proofs.Common.{List, sym, subst}
use Rattle.interrupt_plan.specs.declared.Request.{Request}
use Rattle.run_forms.specs.{RunRests.IsUnderWay, Rooms.Fits}
use Rattle.alone_runs.specs.Rows.{writes_harness}
use Rattle.alone_runs.proofs.session.Session.advance.Goals as goal

pub advance-requires-clause-under_way : goal.advance-requires-clause-under_way
advance-requires-clause-under_way g c =
    let i = c.self.inside in
    subst (λ (l : List Request). IsUnderWay Fits (writes_harness i.form.firmware.now i.form.samples.now) l i.run_state)
    (sym c.as_slice.ensures) c.self.invariant

pub invariant_of-self : goal.invariant_of-self
invariant_of-self g c =
    let i = c.self.inside in
    subst (λ (l : List Request). IsUnderWay Fits (writes_harness i.form.firmware.now i.form.samples.now) l
    c.advance.new.p) c.as_slice.ensures c.advance.ensures.under_way
