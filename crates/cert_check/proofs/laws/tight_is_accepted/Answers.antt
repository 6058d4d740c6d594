use Rattle.cert_check.proofs.AcceptedLemmas.{tight_accepted}
use Rattle.cert_check.proofs.laws.tight_is_accepted.Goals as goal

pub returns : goal.returns
returns c = tight_accepted c.tight_claims_are_least.ensures
