use Rattle.error_bound.proofs.Alike.{ranges_one}
use Rattle.error_bound.proofs.laws.alike_boxes_have_one_range.Goals as goal

pub returns : goal.returns
returns c = ranges_one
