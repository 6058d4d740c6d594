use Rattle.std.proofs.Common.{◌≡◌, length}
use Rattle.error_bound.specs.Reaches.{IsReachOfTerm}
use Rattle.fz_list.proofs.Algebra.{AreFilled}
use Rattle.error_bound.proofs.tables.row_of.Given as goal

abbrev pub invariant-loop-t : goal.invariant-loop-t
invariant-loop-t l =
    (length l.reaches ≡ 15) × AreFilled (λ _ term r. IsReachOfTerm l.input term l.bytes r) l.input.terms l.reaches l.t
