use Rattle.std.proofs.Common.{◌≡◌, drop}
use Rattle.fuzzy_meaning.specs.Conditions.{all, conditions}
use Rattle.error_bound.specs.Matters.{asks_for}
use Rattle.error_bound.proofs.matters.+asking.Given as goal

abbrev pub invariant-some_asks_for-loop-k : goal.invariant-some_asks_for-loop-k
invariant-some_asks_for-loop-k l =
    l.some ≡ asks_for l.table.table.now.block.now l.table.bytes.0.items l.input (all (conditions (drop l.k l.parts)))
