use Rattle.cell_bounds.proofs.CellLemmas.{errors_one}
use Rattle.cell_bounds.proofs.laws.errors_on_cells_are_one.Goals as goal

pub returns : goal.returns
returns c = errors_one
