use Rattle.cert_check.proofs.FaultLemmas.{determined}
use Rattle.cert_check.proofs.laws.errors_are_determined.Goals as goal

pub returns : goal.returns
returns c = determined c.claim_bounds_are_one.ensures
