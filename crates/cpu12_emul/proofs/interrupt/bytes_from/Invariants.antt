use Rattle.std.proofs.Common.{◌≡◌, ◌+◌, ◌++◌}
use Rattle.arrayvec.specs.ArrayVec.{array_vec_len}
use Rattle.cpu12_isa.specs.Memory.{from, bytes_at}
use Rattle.cpu12_emul.proofs.interrupt.bytes_from.Given as goal

-- what is there and what is to come are all the bytes
abbrev pub invariant-loop-left : goal.invariant-loop-left
invariant-loop-left g l = record {
  bytes : l.bytes.items ++ bytes_at (g.M.Mem.bytes l.m) (from l.next l.left) ≡ bytes_at (g.M.Mem.bytes l.m)
      (from l.at l.n);
  room : array_vec_len l.bytes + l.left ≡ l.n;
}

abbrev pub decreases-loop-left : goal.decreases-loop-left
decreases-loop-left g l = l.left
