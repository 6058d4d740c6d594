use Rattle.cell_bounds.proofs.JudgedLemmas.{boxes_bounded}
use Rattle.cell_bounds.proofs.laws.each_box_has_a_cells_bound.Goals as goal

pub returns : goal.returns
returns c =
    boxes_bounded c.each_cell_has_a_count.ensures
