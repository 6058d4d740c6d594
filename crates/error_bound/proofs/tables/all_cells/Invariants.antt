use Rattle.std.proofs.Common.{◌≡◌, length}
use Rattle.error_bound.specs.Reaches.{AreInputCells, all_bytes}
use Rattle.fz_list.proofs.Algebra.{AreFilled}
use Rattle.error_bound.proofs.tables.all_cells.Given as goal

abbrev pub invariant-loop-input : goal.invariant-loop-input
invariant-loop-input l =
    (length l.inputs.items ≡ l.input-index)
    × AreFilled (λ _ x c. AreInputCells x all_bytes c) l.block.inputs l.inputs.items l.input-index
