use Rattle.std.proofs.Common.{◌≡◌, ◌≤◌, ℕ, true}
use Rattle.cpu12_isa.proofs.Watches.{changed_at}
use Rattle.cpu12_isa.proofs.watching.any_of_all.Given as goal

-- what has changed is still to come
abbrev pub invariant-loop-at : goal.invariant-loop-at
invariant-loop-at g l = (at : ℕ) → changed_at l.table (g.M.Mem.bytes l.m) at ≡ true → l.at ≤ at
