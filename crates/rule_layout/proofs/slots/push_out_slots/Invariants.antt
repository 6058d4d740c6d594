use Rattle.rule_layout.proofs.Words.{◌++◌, ◌≡◌, map, out_slot, take}
use Rattle.rule_layout.proofs.slots.push_out_slots.Given as goal

abbrev pub invariant-loop-output : goal.invariant-loop-output
invariant-loop-output l = l.slots.items ≡ l.initial.slots.items ++ map out_slot (take l.output-index l.terms)
