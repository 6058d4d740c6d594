use Rattle.std.proofs.Common.{◌≡◌, length, replicate}
use Rattle.error_certifier.proofs.targets.repeated.Given as goal

abbrev pub invariant-loop-time : goal.invariant-loop-time
invariant-loop-time l = record {
  count : length l.numbers.items ≡ l._time;
  items : l.numbers.items ≡ replicate l._time l.number;
}
