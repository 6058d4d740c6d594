use Rattle.cell_bounds.proofs.ClaimLemmas.{counts_least}
use Rattle.cell_bounds.proofs.laws.counts_are_least.Goals as goal

pub returns : goal.returns
returns c = counts_least c.best_bounds_are_least.ensures c.tight_bounds_are_least.ensures
    c.tight_bounds_hold_inside.ensures
