use Rattle.std.proofs.Common.{drop}
use Rattle.fuzzy_meaning.specs.Conditions.{conditions, group}
use Rattle.error_bound.specs.{Masses.AreEndsOfCondition, Flattening.is_any}
use Rattle.error_bound.proofs.masses.+masses.Given as goal

abbrev pub invariant-mass_among-loop-k : goal.invariant-mass_among-loop-k
invariant-mass_among-loop-k l =
    AreEndsOfCondition l.table.table.now.block.now l.table.bytes.0.items
    (group (is_any l.group) (conditions (drop l.k l.parts))) l.joined
