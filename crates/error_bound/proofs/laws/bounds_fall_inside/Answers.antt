use Rattle.error_bound.proofs.Nested.{bounds_fall}
use Rattle.error_bound.proofs.laws.bounds_fall_inside.Goals as goal

pub returns : goal.returns
returns c = bounds_fall
