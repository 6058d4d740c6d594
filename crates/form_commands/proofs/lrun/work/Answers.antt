use Rattle.command_parts.proofs.Algebra.{behind}
use Rattle.run_reports.proofs.Algebra.{refused_files, worked}
use Rattle.std.proofs.Common.{inl, rules}
use Rattle.form_commands.proofs.lrun.work.Goals as goal

pub returns : goal.returns
returns c =
    let a = c.in_ok-accepted.accepted in
    worked (c.lrun_is_settled.ensures c.args.run c.args.files.now) (
      c.in_ok-compiled.compiled,
      (tt, (a.errors.items, (a.fast_errors.items, (a.samples.items, (a.fast_samples.items, a.levels))))),
    ) (search rules) (c.in_ok-compiled.ensures.gives, c.in_ok-accepted.ensures.accepted) _ c.output.ensures

pub returns-in_err-compiled : goal.returns-in_err-compiled
returns-in_err-compiled c = refused_files (c.lrun_is_settled.ensures c.args.run c.args.files.now)
    c.in_err-compiled.field-0.0 (search rules) (inl c.in_err-compiled.ensures.fault)

pub returns-in_err-accepted : goal.returns-in_err-accepted
returns-in_err-accepted c = refused_files (c.lrun_is_settled.ensures c.args.run c.args.files.now)
    c.in_err-accepted.field-0.0 (search rules) (behind _ c.in_ok-compiled.ensures.gives c.in_err-accepted.ensures.fault)
