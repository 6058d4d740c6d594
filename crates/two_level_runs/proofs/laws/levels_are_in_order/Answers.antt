use Rattle.two_level_runs.proofs.Ordering.{levels_are_in_order}
use Rattle.two_level_runs.proofs.laws.levels_are_in_order.Goals as goal

pub returns : goal.returns
returns c = levels_are_in_order
