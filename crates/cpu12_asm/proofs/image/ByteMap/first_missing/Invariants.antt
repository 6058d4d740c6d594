use Rattle.cpu12_asm.proofs.Differing.{Comparing}
use Rattle.cpu12_asm.proofs.image.ByteMap.first_missing.Given as goal

abbrev pub invariant-loop-at : goal.invariant-loop-at
invariant-loop-at l = Comparing l.fn.self l.fn.other l.at-iterator
