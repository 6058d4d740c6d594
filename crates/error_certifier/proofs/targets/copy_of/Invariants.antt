use Rattle.std.proofs.Common.{◌≡◌, take, length}
use Rattle.error_certifier.proofs.targets.copy_of.Given as goal

abbrev pub invariant-loop-number : goal.invariant-loop-number
invariant-loop-number l = record {
  count : length l.copy.items ≡ l.number-index;
  items : l.copy.items ≡ take l.number-index l.numbers.items;
}
