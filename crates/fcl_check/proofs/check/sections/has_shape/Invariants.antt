use Rattle.fcl_check.proofs.Words.{◌≡◌, drop, has_shape, points_of}
use Rattle.fcl_check.specs.{Steps.completes}
use Rattle.fcl_check.proofs.check.sections.has_shape.Given as goal

abbrev pub invariant-loop-point : goal.invariant-loop-point
invariant-loop-point l = completes l.course (drop l.point-index l.term.more) ≡ has_shape (points_of l.term)
