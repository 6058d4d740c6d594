use Rattle.run_reports.proofs.Algebra.{refused_files, worked}
use Rattle.std.proofs.Common.{rules}
use Rattle.form_commands.proofs.mrun.work.Goals as goal

pub returns : goal.returns
returns c =
    let a = c.in_ok-accepted.accepted in
    worked (c.mrun_is_settled.ensures c.args.run c.args.files.now)
    (a.compiled, (tt, (a.errors.items, (a.samples.items, a.posts)))) (search rules)
    c.in_ok-accepted.ensures.accepted _ c.output.ensures

pub returns-in_err-accepted : goal.returns-in_err-accepted
returns-in_err-accepted c =
    refused_files (c.mrun_is_settled.ensures c.args.run c.args.files.now)
    c.in_err-accepted.field-0.0 (search rules) c.in_err-accepted.ensures.fault
