use Rattle.std.proofs.Common.{◌≡◌, map}
use Rattle.std.specs.List.{range_with_len}
use Rattle.workload.specs.Blocks.{drawn_rule}
use Rattle.workload.proofs.blocks.rules.Given as goal

abbrev pub invariant-loop-n : goal.invariant-loop-n
invariant-loop-n l = l.rules.items ≡ map (drawn_rule l.shift) (range_with_len 0 l.n)
