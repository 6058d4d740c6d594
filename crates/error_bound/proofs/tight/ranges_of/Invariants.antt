use Rattle.std.proofs.Common.{◌≡◌, length, drop, take}
use Rattle.std.specs.Prelude.{slice_index}
use Rattle.error_bound.specs.Tight.{ranges_at}
use Rattle.error_bound.proofs.tight.ranges_of.Given as goal

abbrev pub invariant-loop-k : goal.invariant-loop-k
invariant-loop-k l = record {
  count : length l.ranges ≡ 15;
  done : drop l.k (take (length l.singletons) l.ranges)
      ≡ ranges_at (slice_index l.lows) (slice_index l.highs) l.output.lo l.k (drop l.k l.singletons);
}
