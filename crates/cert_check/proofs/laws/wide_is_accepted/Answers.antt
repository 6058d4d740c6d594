use Rattle.cert_check.proofs.AcceptedLemmas.{wide_accepted}
use Rattle.cert_check.proofs.laws.wide_is_accepted.Goals as goal

pub returns : goal.returns
returns c = wide_accepted c.claim_bounds_fall_with_parts.ensures
