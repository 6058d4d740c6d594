use Rattle.cell_bounds.proofs.WalkLemmas.{answers_on_cells}
use Rattle.cell_bounds.proofs.laws.answers_on_cells_are_near.Goals as goal

pub returns : goal.returns
returns c = answers_on_cells c.answers_to_masses_are_near.ensures
