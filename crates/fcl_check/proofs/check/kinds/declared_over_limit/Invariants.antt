use Rattle.fcl_check.proofs.Words.{[], ◌≡◌, at_each, at_if, Declared, drop, first, is_over, List}
use Rattle.fcl_check.proofs.Faultless.{over_from}
use Rattle.fcl_check.proofs.check.kinds.declared_over_limit.Given as goal

abbrev pub invariant-loop-direction : goal.invariant-loop-direction
invariant-loop-direction l = over_from l.room (drop l.direction-index l.declared) ≡ first
    (at_each (λ (before : List Declared) (d : Declared). at_if (is_over before d) d.1.at) [] l.declared)
