use Rattle.command_parts.proofs.ReadingLemmas.{certs_exact}
use Rattle.command_parts.proofs.laws.certs_are_exact.Goals as goal

pub returns : goal.returns
returns c = certs_exact c.text_answers_are_one.ensures
