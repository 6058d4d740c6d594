use Rattle.cert_check.proofs.AcceptedLemmas.{wide_texts}
use Rattle.cert_check.proofs.laws.wide_texts_are_accepted.Goals as goal

pub returns : goal.returns
returns c = wide_texts c.wide_is_accepted.ensures
