use Rattle.std.proofs.Common.{◌≡◌, ℕ, ◌+◌, ◌<◌, ◌≤◌, length, drop}
use Rattle.std.specs.Prelude.{slice_index}
use Rattle.error_bound.specs.{CellErrors.term_errors, Errors.output_error_among}
use Rattle.error_bound.proofs.tables.BoxTable.errors_by_term.Given as goal

abbrev pub invariant-loop-n : goal.invariant-loop-n
invariant-loop-n l = record {
  count : length l.errors ≡ 15;
  each : (t : ℕ) → t < 15 → slice_index l.errors t
      ≡ output_error_among (term_errors l.self.table.now.block.now l.self.bytes.0.items) l.out (t + 1) (drop l.n l.rules);
  small : (t : ℕ) → t < 15 → slice_index l.errors t ≤ 3000000000;
}
