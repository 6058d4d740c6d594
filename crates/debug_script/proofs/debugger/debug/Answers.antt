use Rattle.std.proofs.Common.{◌≡◌, ◌≤◌, ◌∙◌, List, ℕ, length, map, sym, ap, subst, arith}
use Rattle.std.proofs.lemmas.List.{length-map}
use Rattle.run_law.specs.Forms.{RowSeen}
use Rattle.alone_runs.specs.{Answering.AnswersItsBlock, Forms.with_writes}
use Rattle.alone_runs.specs.Rows.{first_state, firmware_rows, requests_of, row_seen}
use Rattle.trace_io.specs.Traces.{input_bytes}
use Rattle.run_forms.specs.RunRests.{RunRest}
use Rattle.debug_script.specs.Going.{AreTold}
use Rattle.debug_script.proofs.GoingLemmas.{told_positions}
use Rattle.debug_script.proofs.debugger.debug.Goals as goal

pub obey_all-requires : goal.obey_all-requires
obey_all-requires c =
    let a = c.args in
    let f = a.firmware.now in
    let inputs : List (List ℕ) = map input_bytes a.samples.now in
    let few : length inputs ≤ 4294967295 = omega (arith, c.requires.samples, length-map a.samples.now input_bytes) in
    record {
      told = subst AreTold (sym (ap (λ (x : RunRest (RowSeen (List ℕ))). x.left) c.in_ok-session.ensures.rest))
          (told_positions (with_writes a.flags f) f.step_bound (λ k. requests_of k a.plan.now) inputs
          (first_state f a.flags) few);
      notes = c.in_ok-session.ensures.noted;
    }

pub returns-clause-answers : goal.returns-clause-answers
returns-clause-answers c =
    let a = c.args in
    let inputs : List (List ℕ) = map input_bytes a.samples.now in
    let are : map row_seen c.finish-rows.result.0.items
    ≡ (firmware_rows a.firmware.now inputs a.plan.now a.flags).rows =
    c.finish-rows.ensures.rows ∙ c.in-Ok.ensures.leads.rows
    ∙ ap (λ (x : RunRest (RowSeen (List ℕ))). x.rows) c.in_ok-session.ensures.rest in
    subst (λ (rows : List (RowSeen (List ℕ))). AnswersItsBlock a.firmware.now a.flags inputs a.plan.now rows) (sym are)
    (c.answers_under_plans.ensures a.firmware.now a.flags inputs a.plan.now c.ranges.flags.fits c.requires.plan)
