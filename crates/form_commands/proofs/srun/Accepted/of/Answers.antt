use Rattle.command_parts.proofs.Algebra.{behind}
use Rattle.form_commands.proofs.Words.{◌≡◌, Err, rules}
use Rattle.form_commands.proofs.FormLemmas.{with_more}
use Rattle.form_commands.proofs.srun.Accepted.of.Goals as goal

pub returns-in_err-inputs-clause-fault : goal.returns-in_err-inputs-clause-fault
returns-in_err-inputs-clause-fault c =
    let passed : c.from_residual-in_err-inputs.result ≡ Err c.in_err-inputs.field-0.0 = search rules in
    rw passed (behind _ c.in_ok-compiled.ensures.gives (behind tt c.in_ok-require_image.ensures.image
    (with_more c.in_err-inputs.ensures.fault)))

pub returns-in_err-upsets-clause-fault : goal.returns-in_err-upsets-clause-fault
returns-in_err-upsets-clause-fault c =
    let inputs = c.in_ok-inputs.ensures.inputs in
    let passed : c.from_residual-in_err-upsets.result ≡ Err c.in_err-upsets.field-0.0 = search rules in
    rw passed (behind _ c.in_ok-compiled.ensures.gives (behind tt c.in_ok-require_image.ensures.image
    (behind _ inputs.0 (behind _ inputs.1.0 (behind _ inputs.1.1 c.in_err-upsets.ensures.fault)))))
