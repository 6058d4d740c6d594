use Rattle.cert_check.proofs.TreeLemmas.{one_leaf}
use Rattle.cert_check.proofs.laws.one_leaf_has_the_bytes.Goals as goal

pub returns : goal.returns
returns c = one_leaf
