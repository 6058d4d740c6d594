use Rattle.std.proofs.lemmas.Result.{err_from_is_err_and}
use Rattle.command_parts.proofs.CertLemmas.{as_refusal}
use Rattle.command_parts.proofs.certs.errors_under.Goals as goal

pub returns-in_err-check_text_for-clause-refused : goal.returns-in_err-check_text_for-clause-refused
returns-in_err-check_text_for-clause-refused c =
    let p = err_from_is_err_and c.from_residual.result c.from_residual.ensures.1 in
    rw (p.1, p.2) (as_refusal c.args.format c.args.block.now c.args.cert.now
    c.in_err-check_text_for.field-0.0 (rw c.bytes.ensures.value at c.in_err-check_text_for.ensures.refused))
