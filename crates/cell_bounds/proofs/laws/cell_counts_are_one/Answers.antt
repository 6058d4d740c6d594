use Rattle.cell_bounds.proofs.WalkLemmas.{counts_one}
use Rattle.cell_bounds.proofs.laws.cell_counts_are_one.Goals as goal

pub returns : goal.returns
returns c = counts_one
