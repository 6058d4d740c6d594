use Rattle.error_bound.proofs.JudgedLemmas.{parts_small}
use Rattle.error_bound.proofs.laws.best_parts_are_small.Goals as goal

pub returns : goal.returns
returns c = parts_small
