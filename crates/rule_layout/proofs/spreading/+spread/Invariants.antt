use Rattle.rule_layout.proofs.Words.{◌≡◌, conditions, spread_parts, table_literals, take}
use Rattle.rule_layout.proofs.spreading.+spread.Given as goal

abbrev pub invariant-conjunctions_of_parts-loop-part : goal.invariant-conjunctions_of_parts-loop-part
invariant-conjunctions_of_parts-loop-part l =
    l.all.items ≡ table_literals l.numbers.table
    (spread_parts l.odd l.any (conditions (take l.part-index l.parts)))
