use Rattle.error_bound.proofs.Nested.{bounds_unique}
use Rattle.error_bound.proofs.laws.bounds_are_determined.Goals as goal

pub returns : goal.returns
returns c = bounds_unique
