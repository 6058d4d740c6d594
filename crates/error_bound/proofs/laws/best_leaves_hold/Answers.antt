use Rattle.error_bound.proofs.LeafLemmas.{best_holds}
use Rattle.error_bound.proofs.laws.best_leaves_hold.Goals as goal

pub returns : goal.returns
returns c = best_holds
