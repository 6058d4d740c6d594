use Rattle.std.proofs.Common.{◌≡◌, ◌≤◌, ◌+◌, drop}
use Rattle.error_bound.specs.{Bounds.offset, Masses.if_some, Tight.greatest_over}
use Rattle.error_bound.proofs.tight.live_offset.Given as goal

abbrev pub invariant-loop-k : goal.invariant-loop-k
invariant-loop-k l =
    (l.greatest ≤ 510002550000)
    × (l.greatest ≡ greatest_over (λ t s. if_some l.highs t (offset l.output s)) (l.k + 1) (drop l.k l.singletons))
