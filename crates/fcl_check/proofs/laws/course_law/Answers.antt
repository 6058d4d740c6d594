use Rattle.fcl_check.proofs.CourseSteps.{keeps, ascends}
use Rattle.fcl_check.proofs.laws.course_law.Goals as goal

pub returns : goal.returns
returns c = λ t z x up shape spelled. keeps z x t.first t.more spelled.a spelled.b spelled.c spelled.d shape
    (ascends t up)
