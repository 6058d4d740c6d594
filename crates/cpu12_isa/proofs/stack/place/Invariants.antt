use Rattle.std.proofs.Common.{◌≡◌, drop}
use Rattle.cpu12_isa.specs.{Act.write_all, Memory.placed}
use Rattle.cpu12_isa.proofs.stack.place.Given as goal

-- the bytes that are left lead to the same memory as all, and the tags stay
abbrev pub invariant-loop-v : goal.invariant-loop-v
invariant-loop-v g l = record {
  mem : write_all (placed l.to (drop l.v-index l.bytes)) (g.M.Mem.bytes l.m) ≡ write_all (placed l.at l.bytes)
      (g.M.Mem.bytes l.fn.m);
  tags : g.M.Mem.tags l.m ≡ g.M.Mem.tags l.fn.m;
}
