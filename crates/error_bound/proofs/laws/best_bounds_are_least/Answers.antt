use Rattle.error_bound.proofs.LeafLemmas.{best_least}
use Rattle.error_bound.proofs.laws.best_bounds_are_least.Goals as goal

pub returns : goal.returns
returns c = best_least
