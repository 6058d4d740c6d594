use Rattle.std.proofs.Common.{◌≡◌, ℕ, ◌<◌, length}
use Rattle.std.specs.Prelude.{slice_get}
use Rattle.error_bound.specs.Reaches.{AreRows}
use Rattle.error_bound.proofs.tables.BoxTable.move_to.Given as goal

abbrev pub invariant-loop-i : goal.invariant-loop-i
invariant-loop-i l = record {
  over : l.self.table ≡ l.initial.self.table;
  count : length l.self.bytes.0.items ≡ length l.initial.self.table.now.block.now.inputs;
  rows : AreRows l.initial.self.table.now.block.now l.self.bytes.0.items l.self.rows;
  still : l.self.still ≡ l.initial.self.still;
  moved : (j : ℕ) → j < l.i → slice_get l.self.bytes.0.items j ≡ slice_get l.bytes.0.items j;
}
