use Rattle.cert_check.proofs.FaultLemmas.{certs_fail}
use Rattle.cert_check.proofs.laws.faulty_certs_fail.Goals as goal

pub returns : goal.returns
returns c = certs_fail c.faulty_leaves_fail.ensures c.claim_bounds_are_one.ensures
