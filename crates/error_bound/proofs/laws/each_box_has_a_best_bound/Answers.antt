use Rattle.error_bound.proofs.JudgedLemmas.{best_bounds}
use Rattle.error_bound.proofs.laws.each_box_has_a_best_bound.Goals as goal

pub returns : goal.returns
returns c = best_bounds
