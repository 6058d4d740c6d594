use Rattle.cell_bounds.proofs.NarrowLemmas.{fewer}
use Rattle.cell_bounds.proofs.laws.narrowed_boxes_have_fewer_cells.Goals as goal

pub returns : goal.returns
returns c = fewer
