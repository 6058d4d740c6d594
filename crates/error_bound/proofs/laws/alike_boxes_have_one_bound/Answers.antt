use Rattle.error_bound.proofs.Alike.{bounds_one}
use Rattle.error_bound.proofs.laws.alike_boxes_have_one_bound.Goals as goal

pub returns : goal.returns
returns c = bounds_one
