use Rattle.std.proofs.Common.{◌≡◌, ℕ, ◌<◌, ◌≤◌, Some}
use Rattle.std.specs.Prelude.{slice_get}
use Rattle.error_bound.specs.declared.boxes.Interval.{Interval}
use Rattle.error_bound.proofs.still.is_inside.Given as goal

abbrev pub invariant-loop-k : goal.invariant-loop-k
invariant-loop-k l = (j : ℕ) (u v : Interval) → j < l.k → slice_get l.intervals j ≡ Some u
    → slice_get l.large.0.items j ≡ Some v → (v.from ≤ u.from) × (u.to ≤ v.to)
