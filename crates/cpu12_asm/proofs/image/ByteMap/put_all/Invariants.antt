use Rattle.std.proofs.Common.{◌≡◌, ◌+◌, ℕ, List, ◌++◌, take}
use Rattle.cpu12_asm.specs.Bytes.{placed, Holds}
use Rattle.cpu12_asm.proofs.image.ByteMap.put_all.Given as goal

abbrev pub invariant-loop-byte : goal.invariant-loop-byte
invariant-loop-byte l =
    (l.at ≡ l.place + l.byte-index)
    × ((given : List (ℕ × ℕ)) → Holds l.fn.self given
    → Holds l.self (given ++ placed l.place (take l.byte-index l.bytes)))
