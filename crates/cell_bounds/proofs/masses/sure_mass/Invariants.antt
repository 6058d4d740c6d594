use Rattle.std.proofs.Common.{◌≡◌, ◌≤◌, ◌*◌, ◌-◌, length, drop}
use Rattle.cell_error.specs.Errors.{sure_mass as sure_mass_of}
use Rattle.cell_bounds.proofs.masses.sure_mass.Given as goal

abbrev pub invariant-loop-k : goal.invariant-loop-k
invariant-loop-k l = record {
  sum : l.sum ≡ sure_mass_of (drop l.k l.terms);
  small : l.sum ≤ (length l.terms - l.k) * 255000000000;
}
