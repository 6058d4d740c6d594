use Rattle.std.proofs.Common.{◌≡◌, length, Some}
use Rattle.std.specs.Prelude.{slice_get}
use Rattle.error_bound.specs.{declared.boxes.Interval.Interval, Reaches.AreInputReaches}
use Rattle.fz_list.proofs.Algebra.{AreFilled}
use Rattle.error_bound.proofs.tables.BoxTable.over.Given as goal

abbrev pub invariant-loop-i : goal.invariant-loop-i
invariant-loop-i l =
    (length l.rows ≡ 8) × AreFilled
    (λ k x r. (v : Interval) → slice_get l.bytes.0.items k ≡ Some v → AreInputReaches x v r.reaches)
    l.table.block.now.inputs l.rows l.i
