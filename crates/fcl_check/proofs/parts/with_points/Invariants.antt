use Rattle.fcl_check.proofs.Words.{◌≡◌, drop, ends_in, map, reach, x_of}
use Rattle.fcl_check.proofs.parts.with_points.Given as goal

abbrev pub invariant-loop-point : goal.invariant-loop-point
invariant-loop-point l =
    reach (ends_in l.hull) (map x_of (drop l.point-index l.points)) ≡ reach (ends_in l.fn.span) (map x_of l.points)
