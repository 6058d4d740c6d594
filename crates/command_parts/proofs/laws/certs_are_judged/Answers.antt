use Rattle.command_parts.proofs.JudgedLemmas.{certs_judged}
use Rattle.command_parts.proofs.laws.certs_are_judged.Goals as goal

pub returns : goal.returns
returns c = certs_judged c.each_cert_text_is_judged.ensures
