use Rattle.std.proofs.Common.{drop}
use Rattle.fuzzy_meaning.specs.Conditions.{conditions, group}
use Rattle.error_bound.specs.{Reaches.IsEndOfCondition, Flattening.is_any}
use Rattle.error_bound.proofs.ends.+ends.Given as goal

abbrev pub invariant-end_among-loop-k : goal.invariant-end_among-loop-k
invariant-end_among-loop-k l =
    IsEndOfCondition l.table.table.now.block.now l.table.bytes.0.items (group (is_any l.group) (conditions (drop l.k l.parts)))
    l.side l.joined
