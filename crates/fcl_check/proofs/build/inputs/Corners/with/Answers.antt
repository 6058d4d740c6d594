use Rattle.fcl_check.proofs.Words.{rules}
use Rattle.fcl_check.proofs.CourseSteps.{rising, falling, beginning, going-on}
use Rattle.fcl_check.proofs.build.inputs.Corners.with.Goals as goal

pub returns-in-false-None : goal.returns-in-false-None
returns-in-false-None c =
    λ seen held. rising seen c.args.point.now c.args.self held c.value-x.result c.value-x.ensures (search rules)
    (search rules)

pub returns-in-false-Some : goal.returns-in-false-Some
returns-in-false-Some c =
    λ seen held. rw c.or.ensures
    (falling seen c.args.point.now c.args.self held _ c.value-x.result c.value-x.ensures
    (search rules) c.in-false-Some.is-1)

pub returns-in-true-None : goal.returns-in-true-None
returns-in-true-None c =
    λ seen held. beginning seen c.args.point.now c.args.self held c.value-x.result c.value-x.ensures (search rules)
    (search rules)

pub returns-in-true-Some : goal.returns-in-true-Some
returns-in-true-Some c = λ seen held. going-on seen c.args.point.now c.args.self held
    (c.in-true-Some.b, c.in-true-Some.field-0-1-1) c.value-x.result c.value-x.ensures (search rules) (search rules)
