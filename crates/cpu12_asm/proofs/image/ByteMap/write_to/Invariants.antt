use Rattle.std.proofs.Common.{◌≡◌, ℕ, get_or, unwrap_or}
use Rattle.cpu12_asm.specs.Bytes.{byte_at, IsAscending}
use Rattle.cpu12_asm.proofs.image.ByteMap.write_to.Given as goal

-- what is written and what is still to come
abbrev pub invariant-loop-at : goal.invariant-loop-at
invariant-loop-at g l = record {
  same : (q : ℕ) → unwrap_or (byte_at l.at-iterator q) (get_or (g.M.Mem.bytes l.m) q 0) ≡ unwrap_or
      (byte_at l.fn.self q) (get_or (g.M.Mem.bytes l.fn.m) q 0);
  ascending : IsAscending l.at-iterator;
  tags : g.M.Mem.tags l.m ≡ g.M.Mem.tags l.fn.m;
}
