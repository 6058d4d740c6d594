use Rattle.cert_check.proofs.AcceptedLemmas.{tight_texts}
use Rattle.cert_check.proofs.laws.tight_texts_are_accepted.Goals as goal

pub returns : goal.returns
returns c = tight_texts c.tight_is_accepted.ensures
