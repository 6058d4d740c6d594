use Rattle.error_bound.proofs.JudgedLemmas.{in_range}
use Rattle.error_bound.proofs.laws.masses_are_in_range.Goals as goal

pub returns : goal.returns
returns c = in_range
