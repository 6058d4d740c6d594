use Rattle.std.proofs.Common.{◌≡◌, ◌≤◌, ◌*◌, ◌-◌, drop, length}
use Rattle.cell_error.specs.{Errors.weighted, Errors.total, Cuts.masses}
use Rattle.cell_error.proofs.cuts.sums.Given as goal

abbrev pub invariant-loop-k : goal.invariant-loop-k
invariant-loop-k l = record {
  sum : l.sum ≡ weighted (drop l.k l.terms) (masses l.cut (drop l.k l.terms));
  mass : l.mass ≡ total (masses l.cut (drop l.k l.terms));
  within : l.sum ≤ l.width * l.mass;
  small : l.mass ≤ (length l.terms - l.k) * 255000000000;
}
