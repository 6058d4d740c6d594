use Rattle.std.proofs.Common.{◌∙◌, List, map, ap, sym, subst}
use Rattle.run_law.specs.Forms.{RowSeen, rows_from}
use Rattle.interrupt_plan.specs.declared.{Request.Request, upsets.Upset.Upset}
use Rattle.watched_code.specs.Watched.{Watched}
use Rattle.alone_runs.specs.Rows.{requests_of, first_state}
use Rattle.alone_runs.proofs.Algebra.{slice_in_order}
use Rattle.trace_io.specs.Traces.{input_bytes}
use Rattle.run_forms.specs.Rows.{shown}
use Rattle.watched_runs.specs.{Samples.with_upsets, Forms.watched_form, Answering.AnswersItsSamples}
use Rattle.watched_runs.specs.Rows.{FaultSeen, fault_seen, upset_rows, faults_of}
use Rattle.watched_runs.proofs.Shown.{shown_plainly}
use Rattle.watched_runs.proofs.run.run_upsets.Goals as goal

pub run_form-requires : goal.run_form-requires
run_form-requires c = record {
  served = λ k q within. tt;
  order = slice_in_order c.plans_are_in_order.ensures _ _ c.requires.plan c.as_slice.ensures;
}

pub returns-clause-rows : goal.returns-clause-rows
returns-clause-rows c =
    let a = c.args in
    let f = a.firmware.now in
    let inputs = map input_bytes a.samples.now in
    let plan = a.plan.now in
    let given = with_upsets c.ascending-upsets.result.now inputs in
    c.in_ok-rows.ensures.rows
    ∙ ap (λ (l : List Request). shown (λ (row : RowSeen Watched) (told : List (Unit {0})). fault_seen f.outputs row)
    (rows_from (watched_form a.flags f) f.step_bound (λ k. requests_of k l) 1 given (first_state f a.flags)))
    c.as_slice.ensures
    ∙ shown_plainly (fault_seen f.outputs) (watched_form a.flags f) f.step_bound (λ k. requests_of k plan) 1
    given (first_state f a.flags)
    ∙ ap (λ (us : List Upset). faults_of f (upset_rows f inputs plan us a.flags)) c.ascending-upsets.ensures.same

pub returns-clause-answers : goal.returns-clause-answers
returns-clause-answers c =
    let a = c.args in
    let f = a.firmware.now in
    let inputs = map input_bytes a.samples.now in
    let plan = a.plan.now in
    let upsets : List Upset = a.upsets.now in
    let law = c.answers_under_all_upsets.ensures f a.flags inputs plan upsets c.ranges.flags.fits c.requires.plan
    c.requires.upsets in
    subst (λ (rs : List FaultSeen). AnswersItsSamples f a.flags inputs plan upsets rs) (sym (returns-clause-rows c)) law
