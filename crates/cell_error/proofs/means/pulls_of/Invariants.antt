use Rattle.std.proofs.Common.{◌≡◌, ◌≤◌, ◌*◌, ◌-◌, drop, length}
use Rattle.cell_error.specs.Means.{pull}
use Rattle.cell_error.proofs.means.pulls_of.Given as goal

abbrev pub invariant-loop-k : goal.invariant-loop-k
invariant-loop-k l = record {
  up : l.up ≡ pull (λ d. d.rise) (λ d. d.fall) (drop l.k l.terms) (drop l.k l.deviations) l.mass l.sum;
  down : l.down ≡ pull (λ d. d.fall) (λ d. d.rise) (drop l.k l.terms) (drop l.k l.deviations) l.mass l.sum;
  up_small : l.up ≤ (length l.terms - l.k) * 22950114750000000000000;
  down_small : l.down ≤ (length l.terms - l.k) * 22950114750000000000000;
}
