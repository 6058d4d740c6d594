use Rattle.rule_layout.proofs.Words.{◌++◌, ◌≡◌, complement_slot, filter, is_marked, map, take}
use Rattle.rule_layout.proofs.slots.push_complement_slots.Given as goal

abbrev pub invariant-loop-input : goal.invariant-loop-input
invariant-loop-input l =
    l.slots.items ≡ l.initial.slots.items
    ++ map complement_slot (filter (λ p. is_marked l.used.table p.0 p.1) (take l.input-index l.terms))
