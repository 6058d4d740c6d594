use Rattle.error_bound.proofs.LeafLemmas.{best_one}
use Rattle.error_bound.proofs.laws.best_leaves_are_one.Goals as goal

pub returns : goal.returns
returns c = best_one
