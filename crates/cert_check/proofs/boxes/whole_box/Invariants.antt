use Rattle.std.proofs.Common.{◌≡◌, take, length}
use Rattle.cert_check.specs.Trees.{whole}
use Rattle.cert_check.proofs.boxes.whole_box.Given as goal

abbrev pub invariant-loop-input : goal.invariant-loop-input
invariant-loop-input l = record {
  count : length l.intervals.items ≡ l._input-index;
  items : l.intervals.items ≡ take
      l._input-index (whole l.block);
}
