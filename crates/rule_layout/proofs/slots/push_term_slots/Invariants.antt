use Rattle.rule_layout.proofs.Words.{◌++◌, ◌≡◌, map, take, term_slot}
use Rattle.rule_layout.proofs.slots.push_term_slots.Given as goal

abbrev pub invariant-loop-input : goal.invariant-loop-input
invariant-loop-input l = l.slots.items ≡ l.initial.slots.items ++ map term_slot (take l.input-index l.terms)
