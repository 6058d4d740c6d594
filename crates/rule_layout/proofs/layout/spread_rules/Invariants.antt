use Rattle.rule_layout.proofs.Words.{◌≡◌, flat_map, rule_weights, table_conjunctions, take}
use Rattle.rule_layout.proofs.layout.spread_rules.Given as goal

abbrev pub invariant-loop-rule : goal.invariant-loop-rule
invariant-loop-rule l =
    (l.all.items ≡ flat_map (table_conjunctions l.numbers.table) (take l.rule-index l.rules))
    × (l.weights.items ≡ flat_map rule_weights (take l.rule-index l.rules))
