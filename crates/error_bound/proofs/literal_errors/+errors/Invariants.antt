use Rattle.std.proofs.Common.{drop}
use Rattle.fuzzy_meaning.specs.Conditions.{all, conditions}
use Rattle.error_bound.specs.Reaches.{IsDeviationOfCondition}
use Rattle.error_bound.proofs.literal_errors.+errors.Given as goal

abbrev pub invariant-deviation_among-loop-k : goal.invariant-deviation_among-loop-k
invariant-deviation_among-loop-k l =
    IsDeviationOfCondition l.table.table.now.block.now l.table.bytes.0.items (all (conditions (drop l.k l.parts))) l.deviation
