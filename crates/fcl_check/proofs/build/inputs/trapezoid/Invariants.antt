use Rattle.fcl_check.proofs.Words.{◌∷◌, AreCornersOf, take}
use Rattle.fcl_check.proofs.build.inputs.trapezoid.Given as goal

abbrev pub invariant-loop-point : goal.invariant-loop-point
invariant-loop-point l = AreCornersOf (l.term.first ∷ take l.point-index l.term.more) l.corners
