use Rattle.std.proofs.Common.{◌≡◌, length}
use Rattle.error_bound.specs.Reaches.{AreTermCells}
use Rattle.fz_list.proofs.Algebra.{AreFilled}
use Rattle.error_bound.proofs.tables.InputCells.new.Given as goal

abbrev pub invariant-loop-t : goal.invariant-loop-t
invariant-loop-t l =
    (length l.terms ≡ 15) × AreFilled (λ _ term c. AreTermCells l.input term l.bytes c) l.input.terms l.terms l.t
