use Rattle.error_bound.proofs.Alike.{grades_one}
use Rattle.error_bound.proofs.laws.alike_boxes_have_one_grade.Goals as goal

pub returns : goal.returns
returns c = grades_one
