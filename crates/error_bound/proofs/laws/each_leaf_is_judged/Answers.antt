use Rattle.error_bound.proofs.JudgedLemmas.{leaves_judged}
use Rattle.error_bound.proofs.laws.each_leaf_is_judged.Goals as goal

pub returns : goal.returns
returns c = leaves_judged
