use Rattle.std.proofs.Common.{◌≡◌, length, drop, take}
use Rattle.std.specs.Prelude.{slice_index}
use Rattle.error_bound.specs.Tight.{deviations_at}
use Rattle.error_bound.proofs.tight.deviations_of.Given as goal

abbrev pub invariant-loop-k : goal.invariant-loop-k
invariant-loop-k l = record {
  count : length l.deviations ≡ 15;
  done : drop l.k (take (length l.output.singletons) l.deviations)
      ≡ deviations_at (slice_index l.rises) (slice_index l.falls) l.k (drop l.k l.output.singletons);
}
