use Rattle.cell_bounds.proofs.ClaimLemmas.{cell_counts}
use Rattle.cell_bounds.proofs.laws.counts_are_one.Goals as goal

pub returns : goal.returns
returns c = cell_counts c.box_counts_are_one.ensures
