use Rattle.std.proofs.Common.{◌≡◌, ◌∙◌, ℕ, List, map, ap}
use Rattle.run_law.specs.Forms.{RowSeen}
use Rattle.alone_runs.specs.Rows.{row_seen, firmware_rows}
use Rattle.trace_io.specs.Traces.{input_bytes}
use Rattle.run_forms.specs.RunRests.{RunRest}
use Rattle.alone_runs.proofs.AnsweredRows.{answers_its_block}
use Rattle.alone_runs.proofs.rows.run_on.Goals as goal

pub returns-clause-answers : goal.returns-clause-answers
returns-clause-answers g c =
    let a = c.args in
    let samples = map input_bytes a.samples.now in
    let rows = map row_seen c.finish.result.0.items in
    let are : rows ≡ (firmware_rows a.firmware.now samples a.plan.now a.flags).rows =
    c.finish.ensures.rows ∙ ap (λ (x : RunRest (RowSeen (List ℕ))). x.rows) c.in_ok-session.ensures.rest in
    answers_its_block c.answers_under_plans.ensures a.firmware.now a.flags samples a.plan.now rows c.ranges.flags.fits
    c.requires.plan are

pub returns-clause-rows : goal.returns-clause-rows
returns-clause-rows g c =
    c.finish.ensures.rows ∙ ap (λ (x : RunRest (RowSeen (List ℕ))). x.rows) c.in_ok-session.ensures.rest

pub returns-clause-memory : goal.returns-clause-memory
returns-clause-memory g c =
    c.finish.ensures.memory ∙ ap (λ (x : RunRest (RowSeen (List ℕ))). x.state.mem) c.in_ok-session.ensures.rest
