use Rattle.cell_bounds.proofs.ClaimLemmas.{box_counts}
use Rattle.cell_bounds.proofs.laws.box_counts_are_one.Goals as goal

pub returns : goal.returns
returns c = box_counts c.best_leaves_are_one.ensures c.bounds_are_determined.ensures c.tight_bounds_are_one.ensures
