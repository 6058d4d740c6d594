use Rattle.eval_code.proofs.Words.{◌++◌, ◌≡◌, map, nearest_byte, take}
use Rattle.eval_code.proofs.data.add_singletons.Given as goal

abbrev pub invariant-loop-singleton : goal.invariant-loop-singleton
invariant-loop-singleton l =
    l.bytes.items ≡ l.fn.bytes.items ++ map (nearest_byte l.output) (take l.singleton-index l.output.singletons)
