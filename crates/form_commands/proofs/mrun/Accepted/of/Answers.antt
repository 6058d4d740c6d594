use Rattle.command_parts.proofs.Algebra.{behind}
use Rattle.form_commands.proofs.Words.{◌≡◌, Err, rules}
use Rattle.std.proofs.Common.{inl}
use Rattle.form_commands.proofs.mrun.Accepted.of.Goals as goal

pub posts_of-requires : goal.posts_of-requires
posts_of-requires c =
    rw c.deref.ensures.value
    (c.spelled_traces_are_short.ensures _ _ c.in_ok-samples.samples.items c.in_ok-samples.ensures.samples)

pub returns-in_err-samples-clause-fault : goal.returns-in_err-samples-clause-fault
returns-in_err-samples-clause-fault c =
    let passed : c.from_residual-in_err-samples.result ≡ Err c.in_err-samples.field-0.0 = search rules in
    rw passed (behind _ c.in_ok-compiled.ensures.gives (behind tt c.in_ok-require_image.ensures.image
    (behind _ c.in_ok-errors.ensures.accepts (inl c.in_err-samples.ensures.fault))))

pub returns-in_err-posts-clause-fault : goal.returns-in_err-posts-clause-fault
returns-in_err-posts-clause-fault c =
    let passed : c.from_residual-in_err-posts.result ≡ Err c.in_err-posts.field-0.0 = search rules in
    rw passed (behind _ c.in_ok-compiled.ensures.gives (behind tt c.in_ok-require_image.ensures.image
    (behind _ c.in_ok-errors.ensures.accepts (behind _ c.in_ok-samples.ensures.samples
    (rw c.deref.ensures.value at c.in_err-posts.ensures.fault)))))
