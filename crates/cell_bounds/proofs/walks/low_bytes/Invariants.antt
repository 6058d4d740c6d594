use Rattle.std.proofs.Common.{◌≡◌, take, map, length}
use Rattle.error_bound.specs.declared.boxes.Interval.{Interval}
use Rattle.cell_bounds.proofs.walks.low_bytes.Given as goal

abbrev pub invariant-loop-interval : goal.invariant-loop-interval
invariant-loop-interval l = record {
  count : length l.low.items ≡ l.interval-index;
  items : l.low.items ≡ take l.interval-index (map (λ (v : Interval). v.from) l.bytes.0.items);
}
