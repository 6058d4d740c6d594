use Rattle.run_reports.proofs.Algebra.{refused_files, worked}
use Rattle.std.proofs.Common.{rules}
use Rattle.run_commands.proofs.debug.DebugRun.work.Goals as goal

pub output-requires-clause-samples : goal.output-requires-clause-samples
output-requires-clause-samples c =
    c.spelled_traces_are_short.ensures _ _ c.in_ok-accepted.accepted.samples.items
    c.in_ok-accepted.ensures.accepted.1.1.0

pub returns : goal.returns
returns c =
    let a = c.in_ok-accepted.accepted in
    worked (c.debug_is_settled.ensures c.args.self c.args.files.now)
    (a.compiled, (tt, (a.samples.items, (a.plan, a.script)))) (search rules)
    c.in_ok-accepted.ensures.accepted _ c.output.ensures

pub returns-in_err-accepted : goal.returns-in_err-accepted
returns-in_err-accepted c =
    refused_files (c.debug_is_settled.ensures c.args.self c.args.files.now)
    c.in_err-accepted.field-0.0 (search rules) c.in_err-accepted.ensures.fault
