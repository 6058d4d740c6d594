use Rattle.command_parts.proofs.Algebra.{behind}
use Rattle.run_commands.proofs.Words.{◌≡◌, Err, rules}
use Rattle.std.proofs.Common.{inl}
use Rattle.run_commands.proofs.debug.Accepted.of.Goals as goal

pub returns-in_err-plan-clause-fault : goal.returns-in_err-plan-clause-fault
returns-in_err-plan-clause-fault c =
    let passed : c.from_residual-in_err-plan.result ≡ Err c.in_err-plan.field-0.0 = search rules in
    rw passed (behind _ c.in_ok-compiled.ensures.gives (behind tt c.in_ok-require_image.ensures.image
    (behind _ c.in_ok-samples.ensures.samples (inl c.in_err-plan.ensures.fault))))

pub returns-in_err-script-clause-fault : goal.returns-in_err-script-clause-fault
returns-in_err-script-clause-fault c =
    let passed : c.from_residual-in_err-script.result ≡ Err c.in_err-script.field-0.0 = search rules in
    rw passed (behind _ c.in_ok-compiled.ensures.gives (behind tt c.in_ok-require_image.ensures.image
    (behind _ c.in_ok-samples.ensures.samples (behind _ c.in_ok-plan.ensures.plan c.in_err-script.ensures.fault))))
