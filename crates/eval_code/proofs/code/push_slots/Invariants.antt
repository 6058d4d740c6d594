use Rattle.eval_code.proofs.Words.{◌++◌, ◌+◌, ◌≡◌, drop, map, Op, slots_code}
use Rattle.eval_code.proofs.code.push_slots.Given as goal

abbrev pub invariant-loop-slot : goal.invariant-loop-slot
invariant-loop-slot l =
    (l.at ≡ l.first + l.slot-index)
    × (l.items.items ++ map Op (slots_code l.first l.inputs l.at (drop l.slot-index l.slots)) ≡ l.fn.items.items
    ++ map Op (slots_code l.first l.inputs l.first l.slots))
