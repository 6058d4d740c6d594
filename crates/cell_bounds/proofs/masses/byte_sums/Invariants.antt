use Rattle.std.proofs.Common.{◌≡◌, ◌≤◌, ◌*◌, ◌-◌, length, drop}
use Rattle.std.specs.Prelude.{slice_index}
use Rattle.cell_bounds.specs.Cells.{mass_sum, dot_sum}
use Rattle.cell_bounds.proofs.masses.byte_sums.Given as goal

abbrev pub invariant-loop-k : goal.invariant-loop-k
invariant-loop-k l = record {
  mass : l.mass ≡ mass_sum (slice_index l.masses) l.k (drop l.k l.singletons);
  dot : l.dot ≡ dot_sum (slice_index l.masses) l.output l.k (drop l.k l.singletons);
  within : l.dot ≤ 255 * l.mass;
  small : l.mass ≤ 255 * (length l.singletons - l.k);
}
