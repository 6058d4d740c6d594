use Rattle.error_bound.proofs.LeafLemmas.{faulty_fail}
use Rattle.error_bound.proofs.laws.faulty_leaves_fail.Goals as goal

pub returns : goal.returns
returns c = faulty_fail
