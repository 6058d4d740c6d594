use Rattle.cell_error.specs.Means.{IsSmallPull}
use Rattle.cell_error.proofs.MeanLemmas.{IsWorst}
use Rattle.cell_error.proofs.means.mean_error.Given as goal

abbrev pub invariant-loop-t : goal.invariant-loop-t
invariant-loop-t l = record {
  up : IsWorst (λ d. d.rise) (λ d. d.fall) l.terms l.deviations l.t-index l.worst.up.pull l.worst.up.mass;
  down : IsWorst (λ d. d.fall) (λ d. d.rise) l.terms l.deviations l.t-index l.worst.down.pull l.worst.down.mass;
  up_small : IsSmallPull l.worst.up;
  down_small : IsSmallPull l.worst.down;
}
