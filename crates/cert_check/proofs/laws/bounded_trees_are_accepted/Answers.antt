use Rattle.cert_check.proofs.JudgedTrees.{bounded_accepted}
use Rattle.cert_check.proofs.laws.bounded_trees_are_accepted.Goals as goal

pub returns : goal.returns
returns c = bounded_accepted
