use Rattle.cell_bounds.proofs.WalkLemmas.{bounds_fall}
use Rattle.cell_bounds.proofs.laws.cells_bounds_fall_inside.Goals as goal

pub returns : goal.returns
returns c = bounds_fall
