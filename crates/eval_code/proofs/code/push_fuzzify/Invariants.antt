use Rattle.eval_code.proofs.Words.{◌++◌, ◌+◌, ◌≡◌, drop, fuzzify_code, map, Op}
use Rattle.eval_code.proofs.code.push_fuzzify.Given as goal

abbrev pub invariant-loop-input : goal.invariant-loop-input
invariant-loop-input l =
    (l.at ≡ l.first + l.input-index)
    × (l.items.items ++ map Op (fuzzify_code l.at (drop l.input-index l.inputs)) ≡ l.fn.items.items
    ++ map Op (fuzzify_code l.first l.inputs))
