use Rattle.std.proofs.Common.{◌≡◌, drop}
use Rattle.cpu12_isa.specs.Act.{write_all}
use Rattle.cpu12_emul.specs.Take.{pairs_of}
use Rattle.cpu12_emul.proofs.interrupt.write_each.Given as goal

-- the writes that are left lead to the same memory as all, and the tags stay
abbrev pub invariant-loop-w : goal.invariant-loop-w
invariant-loop-w g l = record {
  mem : write_all (pairs_of (drop l.w-index l.writes)) (g.M.Mem.bytes l.m) ≡ write_all (pairs_of l.writes)
      (g.M.Mem.bytes l.fn.m);
  tags : g.M.Mem.tags l.m ≡ g.M.Mem.tags l.fn.m;
}
