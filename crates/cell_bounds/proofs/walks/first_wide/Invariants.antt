use Rattle.std.proofs.Common.{◌≡◌, ℕ, ◌<◌, Some}
use Rattle.std.specs.Prelude.{slice_get}
use Rattle.error_bound.specs.declared.boxes.Interval.{Interval}
use Rattle.cell_bounds.proofs.walks.first_wide.Given as goal

abbrev pub invariant-loop-k : goal.invariant-loop-k
invariant-loop-k l = (j : ℕ) (v : Interval) → j < l.k → slice_get l.intervals j ≡ Some v → v.from ≡ v.to
