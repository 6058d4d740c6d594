use Rattle.cert_check.proofs.TreeLemmas.{leaf_around}
use Rattle.cert_check.proofs.laws.leaves_are_around.Goals as goal

pub returns : goal.returns
returns c = leaf_around
