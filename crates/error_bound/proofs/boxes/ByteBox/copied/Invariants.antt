use Rattle.std.proofs.Common.{◌≡◌, take}
use Rattle.error_bound.proofs.boxes.ByteBox.copied.Given as goal

abbrev pub invariant-loop-interval : goal.invariant-loop-interval
invariant-loop-interval l = l.intervals.items ≡ take l.interval-index l.self.0.items
