use Rattle.fcl_check.proofs.Words.{◌≡◌, drop, falling_in, first}
use Rattle.fcl_check.proofs.CourseSteps.{falling_from}
use Rattle.fcl_check.proofs.check.sections.falling_in.Given as goal

abbrev pub invariant-loop-point : goal.invariant-loop-point
invariant-loop-point l =
    first (falling_from l.before.0 (drop l.point-index l.term.more)) ≡ first (falling_in l.term)
