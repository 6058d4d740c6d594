use Rattle.cert_check.proofs.TreeLemmas.{cuts_halved}
use Rattle.cert_check.proofs.laws.cuts_have_halves.Goals as goal

pub returns : goal.returns
returns c = cuts_halved
