use Rattle.cell_bounds.proofs.JudgedLemmas.{within_or_above}
use Rattle.cell_bounds.proofs.laws.each_box_is_within_or_above.Goals as goal

pub returns : goal.returns
returns c =
    within_or_above c.each_cell_has_a_count.ensures
