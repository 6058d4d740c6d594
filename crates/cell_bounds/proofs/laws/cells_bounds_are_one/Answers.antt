use Rattle.cell_bounds.proofs.WalkLemmas.{bounds_one}
use Rattle.cell_bounds.proofs.laws.cells_bounds_are_one.Goals as goal

pub returns : goal.returns
returns c = bounds_one
