use Rattle.std.proofs.Common.{◌≡◌, ◌≤◌, drop}
use Rattle.error_bound.specs.Bounds.{greatest_offset as greatest_offset_of}
use Rattle.error_bound.proofs.bounds.greatest_offset.Given as goal

abbrev pub invariant-loop-k : goal.invariant-loop-k
invariant-loop-k l = (l.greatest ≤ 510002550000) × (l.greatest ≡ greatest_offset_of l.output (drop l.k l.singletons))
