use Rattle.std.proofs.Common.{List, map, rules, sym, subst}
use Rattle.alone_runs.proofs.Algebra.{slice_in_order}
use Rattle.trace_io.specs.Traces.{input_bytes}
use Rattle.handled_runs.specs.{Answering.HandlesItsBlock, Forms.HandledSeen}
use Rattle.handled_runs.proofs.rows.run_handler.Goals as goal

pub run_form-requires : goal.run_form-requires
run_form-requires c = record {
  served = λ k q within. tt;
  order = slice_in_order c.plans_are_in_order.ensures _ _ c.requires.plan c.as_slice.ensures;
}

pub returns-clause-rows : goal.returns-clause-rows
returns-clause-rows c = search rules

pub returns-clause-answers : goal.returns-clause-answers
returns-clause-answers c instrs is =
    let a = c.args in
    let inputs = map input_bytes a.samples.now in
    subst (λ (rows : List HandledSeen). HandlesItsBlock a.firmware.now a.image.now.bytes instrs a.flags inputs
    a.plan.now rows) (sym (returns-clause-rows c))
    (c.handled_answers.ensures a.firmware.now a.image.now.bytes instrs a.flags inputs a.plan.now c.ranges.flags.fits
    c.requires.plan is)
