use Rattle.std.proofs.Common.{ℕ, ◌≤◌}
use Rattle.std.specs.Prelude.{IfSome}
use Rattle.fuzzy_meaning.specs.Blocks.{output_at}
use Rattle.error_bound.specs.Reaches.{IsTableOf}
use Rattle.byte_scaling.specs.Widths.{parts}
use Rattle.cell_bounds.specs.CellBounds.{CellsAreWithin}
use Rattle.cell_bounds.proofs.walks.first_unsure.Given as goal

abbrev pub invariant-loop-place : goal.invariant-loop-place
invariant-loop-place l = record {
  table : IsTableOf l.table l.cell;
  sure : (j : ℕ) → 1 ≤ j → j ≤ l.place
      → IfSome (output_at l.table.block.now j) (λ x. CellsAreWithin l.table.block.now l.bytes.0.items j x (parts l.table.width) 1000000);
}
