use Rattle.std.proofs.Common.{◌≡◌, ◌≤◌, ℕ, true, length}
use Rattle.cpu12_isa.specs.Watching.{noted_again}
use Rattle.cpu12_isa.proofs.Watches.{changed_at}
use Rattle.cpu12_isa.proofs.watching.note_all.Given as goal

-- what has changed is still to come, and what is noted in the end stays
abbrev pub invariant-loop-at : goal.invariant-loop-at
invariant-loop-at g l = record {
  same : noted_again l.table (g.M.Mem.bytes l.m) ≡ noted_again l.fn.table (g.M.Mem.bytes l.m);
  rest : (at : ℕ) → changed_at l.table (g.M.Mem.bytes l.m) at ≡ true → l.at ≤ at;
  size : length l.table ≡ 65536;
}
