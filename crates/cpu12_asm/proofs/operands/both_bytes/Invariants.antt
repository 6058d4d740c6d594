use Rattle.std.proofs.Common.{◌≡◌, take, flat_map}
use Rattle.cpu12_asm.specs.Giving.{word_bytes}
use Rattle.cpu12_asm.proofs.operands.both_bytes.Given as goal

abbrev pub invariant-loop-v : goal.invariant-loop-v
invariant-loop-v l = l.bytes.items ≡ flat_map word_bytes (take l.v-index l.values)
