use Rattle.rule_layout.proofs.Words.{◌++◌, ◌≡◌, at_address, drop, map, marked}
use Rattle.rule_layout.proofs.lists.marked.Given as goal

abbrev pub invariant-loop-k : goal.invariant-loop-k
invariant-loop-k l =
    l.list.items ++ marked l.separator l.end_mark (map (at_address l.base) (drop l.k l.conjunctions))
    ≡ marked l.separator l.end_mark (map (at_address l.base) l.conjunctions)
