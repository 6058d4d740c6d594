use Rattle.eval_code.proofs.Words.{◌*◌, ◌++◌, ◌+◌, ◌≡◌, ◌≤◌, drop, map, Op, outputs_code}
use Rattle.eval_code.proofs.code.push_outputs.Given as goal

abbrev pub invariant-loop-output : goal.invariant-loop-output
invariant-loop-output l =
    (l.at ≤ l.answers + 2 * l.output-index) × (l.singleton ≤ l.singletons + 15 * l.output-index)
    × (l.slot ≤ l.slots + 15 * l.output-index)
    × (l.items.items ++ map Op (outputs_code l.width l.singleton l.slot l.at (drop l.output-index l.outputs))
    ≡ l.fn.items.items ++ map Op (outputs_code l.width l.singletons l.slots l.answers l.outputs))
