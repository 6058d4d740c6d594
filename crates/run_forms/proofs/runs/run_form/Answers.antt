use Rattle.std.proofs.Common.{◌∙◌, ap}
use Rattle.cpu12_parts.specs.State.{State}
use Rattle.cpu12_emul.specs.Step.{Whole}
use Rattle.run_forms.specs.RunRests.{RunRest, rest_here}
use Rattle.run_forms.proofs.runs.run_form.Goals as goal

pub returns-clause-rows : goal.returns-clause-rows
returns-clause-rows g c =
    let a = c.args in
    let h = g.F.SampleForm.harness a.form.now in
    let r = c.in_ok-machine in
    c.into_rows-rows.ensures.rows
    ∙ c.drive.ensures.rows
    ∙ ap (λ (w : Whole). (rest_here w.flags h a.plan.now r.run_state r.machine.state).rows) r.ensures.machine
    ∙ ap (λ (x : RunRest g.F.SampleForm.Shown). x.rows) r.ensures.first

pub returns-clause-memory : goal.returns-clause-memory
returns-clause-memory g c =
    let a = c.args in
    let h = g.F.SampleForm.harness a.form.now in
    let r = c.in_ok-machine in
    c.into_mem.ensures.bytes
    ∙ ap (λ (s : State). s.mem) (c.into_rows-rows.ensures.state ∙ c.drive.ensures.state)
    ∙ ap (λ (w : Whole). (rest_here w.flags h a.plan.now r.run_state r.machine.state).state.mem) r.ensures.machine
    ∙ ap (λ (x : RunRest g.F.SampleForm.Shown). x.state.mem) r.ensures.first

pub into_rows-rows-requires-clause-few : goal.into_rows-rows-requires-clause-few
into_rows-rows-requires-clause-few g c =
    let w = c.drive.ensures.under_way in
    let sample = w.sample in
    (_, sample.room)
