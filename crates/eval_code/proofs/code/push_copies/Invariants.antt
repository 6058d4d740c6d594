use Rattle.eval_code.proofs.Words.{◌++◌, ◌≡◌, map, Op, replicate}
use Rattle.eval_code.proofs.code.push_copies.Given as goal

abbrev pub invariant-loop-turn : goal.invariant-loop-turn
invariant-loop-turn l = l.items.items ≡ l.fn.items.items ++ map Op (replicate l._turn l.instruction)
