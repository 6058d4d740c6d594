use Rattle.std.proofs.Common.{◌≡◌, ◌≤◌, ◌+◌, ◌-◌, ◌*◌, length, drop}
use Rattle.std.specs.Prelude.{slice_index}
use Rattle.error_bound.specs.Tight.{sum_over}
use Rattle.error_bound.proofs.tight.sum_of.Given as goal

abbrev pub invariant-loop-k : goal.invariant-loop-k
invariant-loop-k l =
    (l.sum ≤ 255000000000 * (length l.output.singletons - l.k))
    × (l.sum ≡ sum_over (λ t u. slice_index l.values (t - 1)) (l.k + 1) (drop l.k l.output.singletons))
