use Rattle.command_parts.proofs.Algebra.{behind}
use Rattle.run_commands.proofs.Words.{◌≡◌, Err, rules}
use Rattle.run_commands.proofs.run.Accepted.of.Goals as goal

pub returns-in_err-inputs-clause-fault : goal.returns-in_err-inputs-clause-fault
returns-in_err-inputs-clause-fault c =
    let passed : c.from_residual-in_err-inputs.result ≡ Err c.in_err-inputs.field-0.0 = search rules in
    rw passed (behind _ c.in_ok-compiled.ensures.gives (behind tt c.in_ok-require_image.ensures.image
    c.in_err-inputs.ensures.fault))
