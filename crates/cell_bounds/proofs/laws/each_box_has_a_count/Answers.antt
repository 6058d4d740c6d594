use Rattle.cell_bounds.proofs.JudgedLemmas.{box_counted}
use Rattle.cell_bounds.proofs.laws.each_box_has_a_count.Goals as goal

pub returns : goal.returns
returns c =
    box_counted c.each_box_has_a_best_bound.ensures c.each_box_has_a_tight_count.ensures
