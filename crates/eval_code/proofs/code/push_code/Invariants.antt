use Rattle.eval_code.proofs.Words.{◌++◌, ◌≡◌, map, Op, take}
use Rattle.eval_code.proofs.code.push_code.Given as goal

abbrev pub invariant-loop-instruction : goal.invariant-loop-instruction
invariant-loop-instruction l = l.items.items ≡ l.fn.items.items ++ map Op (take l.instruction-index l.code)
