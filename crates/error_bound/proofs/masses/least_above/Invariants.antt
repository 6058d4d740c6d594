use Rattle.std.proofs.Common.{drop}
use Rattle.std.specs.Prelude.{map}
use Rattle.fuzzy_meaning.specs.Conditions.{all, conditions}
use Rattle.error_bound.specs.{Masses.AreEndsOfCondition, Reaches.literal_of}
use Rattle.error_bound.proofs.masses.least_above.Given as goal

abbrev pub invariant-loop-k : goal.invariant-loop-k
invariant-loop-k l =
    AreEndsOfCondition l.table.table.now.block.now l.table.bytes.0.items
    (all (conditions (map literal_of (drop l.k l.literals)))) l.least
