use Rattle.error_bound.proofs.Nested.{bounds_fall_with_parts}
use Rattle.error_bound.proofs.laws.bounds_fall_with_parts.Goals as goal

pub returns : goal.returns
returns c = bounds_fall_with_parts
