use Rattle.std.proofs.Common.{◌≡◌, ℕ, ◌+◌, ◌<◌, max, length, drop}
use Rattle.std.specs.Prelude.{slice_index, if◌then◌else◌}
use Rattle.error_bound.proofs.LeafLemmas.{concludes_among}
use Rattle.error_bound.proofs.bounds.raise_terms.Given as goal

abbrev pub invariant-loop-k : goal.invariant-loop-k
invariant-loop-k l = record {
  count : length l.errors ≡ 15;
  each : (t : ℕ) → t < 15 → slice_index l.errors t
      ≡ (if concludes_among l.out (t + 1) (drop l.k l.rule.concl) then max l.error (slice_index l.initial.errors t) else
      slice_index l.initial.errors t);
}
