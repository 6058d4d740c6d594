use Rattle.command_parts.proofs.Algebra.{behind}
use Rattle.form_commands.proofs.Words.{◌≡◌, Err, rules}
use Rattle.std.proofs.Common.{inl}
use Rattle.form_commands.proofs.lrun.Accepted.of.Goals as goal

pub levels_of-requires : goal.levels_of-requires
levels_of-requires c =
    rw c.deref.ensures.value
    (c.spelled_traces_are_short.ensures _ _ c.in_ok-fast_samples.fast_samples.items
    c.in_ok-fast_samples.ensures.samples)

pub returns-in_err-samples-clause-fault : goal.returns-in_err-samples-clause-fault
returns-in_err-samples-clause-fault c =
    let passed : c.from_residual-in_err-samples.result ≡ Err c.in_err-samples.field-0.0 = search rules in
    rw passed (behind tt c.in_ok-require_image.ensures.image (behind _ c.in_ok-errors.ensures.accepts
    (behind _ c.in_ok-fast_errors.ensures.accepted (inl c.in_err-samples.ensures.fault))))

pub returns-in_err-fast_samples-clause-fault : goal.returns-in_err-fast_samples-clause-fault
returns-in_err-fast_samples-clause-fault c =
    let passed : c.from_residual-in_err-fast_samples.result ≡ Err c.in_err-fast_samples.field-0.0 = search rules in
    rw passed (behind tt c.in_ok-require_image.ensures.image (behind _ c.in_ok-errors.ensures.accepts
    (behind _ c.in_ok-fast_errors.ensures.accepted (behind _ c.in_ok-samples.ensures.samples
    (inl c.in_err-fast_samples.ensures.fault)))))

pub returns-in_err-levels-clause-fault : goal.returns-in_err-levels-clause-fault
returns-in_err-levels-clause-fault c =
    let passed : c.from_residual-in_err-levels.result ≡ Err c.in_err-levels.field-0.0 = search rules in
    rw passed (behind tt c.in_ok-require_image.ensures.image (behind _ c.in_ok-errors.ensures.accepts
    (behind _ c.in_ok-fast_errors.ensures.accepted (behind _ c.in_ok-samples.ensures.samples
    (behind _ c.in_ok-fast_samples.ensures.samples (rw c.deref.ensures.value at c.in_err-levels.ensures.fault))))))
