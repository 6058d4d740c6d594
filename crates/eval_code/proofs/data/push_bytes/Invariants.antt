use Rattle.eval_code.proofs.Words.{◌++◌, ◌≡◌, Byte, map, take}
use Rattle.eval_code.proofs.data.push_bytes.Given as goal

abbrev pub invariant-loop-byte : goal.invariant-loop-byte
invariant-loop-byte l = l.items.items ≡ l.fn.items.items ++ map Byte (take l.byte-index l.bytes)
