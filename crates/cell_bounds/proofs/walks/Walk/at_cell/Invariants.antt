use Rattle.std.proofs.Common.{◌≡◌, ℕ, ◌≤◌, length}
use Rattle.std.specs.Prelude.{slice_index}
use Rattle.byte_scaling.specs.Widths.{parts}
use Rattle.cell_bounds.specs.Walks.{AreRaised, AreAtMost}
use Rattle.cell_bounds.proofs.walks.Walk.at_cell.Given as goal

abbrev pub invariant-loop-place : goal.invariant-loop-place
invariant-loop-place l = record {
  count : length l.raised ≡ 4;
  done : AreRaised l.self.table.now.block.now (parts l.self.table.now.width) l.self.first l.place l.bytes.0.items l.fn.so_far l.raised;
  rest : (k : ℕ) → l.place ≤ k → slice_index l.raised k ≡ slice_index l.fn.so_far k;
  small : AreAtMost l.self.limits.now l.raised;
}
