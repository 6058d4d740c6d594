use Rattle.rule_layout.proofs.Words.{◌≡◌, map, out_slot, table_number, take}
use Rattle.rule_layout.proofs.layout.conclusions_of.Given as goal

abbrev pub invariant-loop-output : goal.invariant-loop-output
invariant-loop-output l =
    l.all.items ≡ map (λ p. table_number l.numbers.table (out_slot p)) (take l.output-index l.conclusions)
