use Rattle.error_bound.proofs.Nested.{leaves_hold_inside}
use Rattle.error_bound.proofs.laws.leaves_hold_inside.Goals as goal

pub returns : goal.returns
returns c = leaves_hold_inside
