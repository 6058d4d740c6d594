use Rattle.std.proofs.Common.{◌≡◌, drop, length}
use Rattle.cpu12_isa.specs.Watching.{AreListed, noted_again}
use Rattle.cpu12_isa.proofs.watching.note_listed.Given as goal

-- what has changed is still to come, and what is noted in the end stays
abbrev pub invariant-loop-at : goal.invariant-loop-at
invariant-loop-at g l = record {
  same : noted_again l.table (g.M.Mem.bytes l.m) ≡ noted_again l.fn.table (g.M.Mem.bytes l.m);
  listed : AreListed (drop l.at-index l.written) l.table (g.M.Mem.bytes l.m);
  size : length l.table ≡ 65536;
}
