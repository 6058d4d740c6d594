use Rattle.cell_bounds.proofs.NarrowLemmas.{one_bound}
use Rattle.cell_bounds.proofs.laws.alike_cells_have_one_bound.Goals as goal

pub returns : goal.returns
returns c = one_bound c.alike_boxes_have_one_bound.ensures c.alike_boxes_have_one_range.ensures
    c.alike_boxes_have_one_grade.ensures
