use Rattle.eval_code.proofs.Words.{◌≡◌, flat_map, singleton_bytes_of, take}
use Rattle.eval_code.proofs.data.singleton_bytes.Given as goal

abbrev pub invariant-loop-output : goal.invariant-loop-output
invariant-loop-output l = l.bytes.items ≡ flat_map singleton_bytes_of (take l.output-index l.block.outputs)
