use Rattle.cell_bounds.proofs.CellLemmas.{unsure_none}
use Rattle.cell_bounds.proofs.laws.unsure_cells_have_none.Goals as goal

pub returns : goal.returns
returns c = unsure_none
