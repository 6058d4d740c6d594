use Rattle.std.proofs.Common.{◌∙◌, List, ap, sym, subst}
use Rattle.cpu12_parts.specs.State.{State}
use Rattle.interrupt_plan.specs.declared.Request.{Request}
use Rattle.alone_runs.specs.{Rows.writes_harness, Sessions.SessionSeen}
use Rattle.run_forms.specs.{RunRests.rest_here, RunRests.IsUnderWay, Rooms.Fits}
use Rattle.alone_runs.proofs.session.Session.finish.Goals as goal

pub returns-clause-rows : goal.returns-clause-rows
returns-clause-rows g c =
    let i = c.self.inside in
    let h = writes_harness i.form.firmware.now i.form.samples.now in
    c.into_rows-rows.ensures.rows
    ∙ c.drive.ensures.rows
    ∙ ap (λ (l : List Request). (rest_here i.machine.flags h l i.run_state i.machine.state).rows) c.as_slice.ensures
    ∙ ap (λ (o : SessionSeen). o.rest.rows) c.self.view_is

pub returns-clause-memory : goal.returns-clause-memory
returns-clause-memory g c =
    let i = c.self.inside in
    let h = writes_harness i.form.firmware.now i.form.samples.now in
    c.into_mem.ensures.bytes
    ∙ ap (λ (s : State). s.mem) (c.into_rows-rows.ensures.state ∙ c.drive.ensures.state)
    ∙ ap (λ (l : List Request). (rest_here i.machine.flags h l i.run_state i.machine.state).state.mem)
    c.as_slice.ensures
    ∙ ap (λ (o : SessionSeen). o.rest.state.mem) c.self.view_is

pub into_rows-rows-requires-clause-few : goal.into_rows-rows-requires-clause-few
into_rows-rows-requires-clause-few g c =
    let w = c.drive.ensures.under_way in
    let sample = w.sample in
    (_, sample.room)

pub drive-requires-clause-under_way : goal.drive-requires-clause-under_way
drive-requires-clause-under_way g c =
    let i = c.self.inside in
    subst (λ (l : List Request). IsUnderWay Fits (writes_harness i.form.firmware.now i.form.samples.now) l i.run_state)
    (sym c.as_slice.ensures) c.self.invariant
