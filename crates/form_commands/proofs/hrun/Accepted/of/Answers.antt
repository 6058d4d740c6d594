use Rattle.command_parts.proofs.Algebra.{behind}
use Rattle.form_commands.proofs.Words.{◌≡◌, Err, rules}
use Rattle.form_commands.proofs.hrun.Accepted.of.Goals as goal

pub returns-in_err-inputs-clause-fault : goal.returns-in_err-inputs-clause-fault
returns-in_err-inputs-clause-fault c =
    let passed : c.from_residual-in_err-inputs.result ≡ Err c.in_err-inputs.field-0.0 = search rules in
    rw passed (behind _ c.in_ok-compiled.ensures.gives (behind _ c.in_ok-handler.ensures.handler
    c.in_err-inputs.ensures.fault))
