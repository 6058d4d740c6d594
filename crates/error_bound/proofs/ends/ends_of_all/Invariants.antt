use Rattle.std.proofs.Common.{drop}
use Rattle.fuzzy_meaning.specs.Conditions.{all, conditions}
use Rattle.error_bound.specs.Reaches.{IsEndOfCondition}
use Rattle.error_bound.specs.declared.ends.Side.TheVariants.{Low, High}
use Rattle.error_bound.proofs.ends.ends_of_all.Given as goal

abbrev pub invariant-loop-k : goal.invariant-loop-k
invariant-loop-k l = record {
  low : IsEndOfCondition l.table.table.now.block.now l.table.bytes.0.items (all (conditions (drop l.k l.parts))) Low l.low;
  high : IsEndOfCondition l.table.table.now.block.now l.table.bytes.0.items (all (conditions (drop l.k l.parts))) High l.high;
}
