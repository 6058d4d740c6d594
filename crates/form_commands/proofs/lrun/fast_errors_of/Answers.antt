use Rattle.command_parts.proofs.Algebra.{refused_fast}
use Rattle.command_parts.specs.Certs.{cert_in}
use Rattle.form_commands.proofs.lrun.fast_errors_of.Goals as goal

pub returns-in-Err-clause-fault : goal.returns-in-Err-clause-fault
returns-in-Err-clause-fault c =
    rw c.of_fast.ensures (refused_fast (cert_in c.args.format c.args.fast.now c.args.cert.now)
    c.in-Err.status c.in-Err.ensures.refused)
