use Rattle.cell_bounds.proofs.NarrowLemmas.{all_stand}
use Rattle.cell_bounds.proofs.laws.narrowed_boxes_stand_for_all.Goals as goal

pub returns : goal.returns
returns c = all_stand c.alike_cells_have_one_bound.ensures
