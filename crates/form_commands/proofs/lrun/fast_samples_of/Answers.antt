use Rattle.command_parts.proofs.Algebra.{refused_fast}
use Rattle.run_reports.specs.Inputs.{trace_in}
use Rattle.form_commands.proofs.lrun.fast_samples_of.Goals as goal

pub returns-in-Err-clause-fault : goal.returns-in-Err-clause-fault
returns-in-Err-clause-fault c =
    rw c.of_fast.ensures (refused_fast (trace_in c.args.fast.now c.args.trace.now) c.in-Err.status
    c.in-Err.ensures.fault)
