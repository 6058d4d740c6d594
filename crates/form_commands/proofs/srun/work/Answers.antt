use Rattle.run_reports.proofs.Algebra.{refused_files, worked}
use Rattle.std.proofs.Common.{rules}
use Rattle.form_commands.proofs.srun.work.Goals as goal

pub returns : goal.returns
returns c =
    let a = c.in_ok-accepted.accepted in
    worked (c.srun_is_settled.ensures c.args.run c.args.files.now)
    (a.compiled, (tt, (a.inputs.errors.items, (a.inputs.samples.items, (a.inputs.plan, a.upsets))))) (search rules)
    c.in_ok-accepted.ensures.accepted _ c.output.ensures

pub returns-in_err-accepted : goal.returns-in_err-accepted
returns-in_err-accepted c =
    refused_files (c.srun_is_settled.ensures c.args.run c.args.files.now)
    c.in_err-accepted.field-0.0 (search rules) c.in_err-accepted.ensures.fault
