use Rattle.handler_check.proofs.Words.{◌+◌, ◌-◌, ◌≡◌, ◌≤◌, code_end, code_start, FitCode, HasCode, length}
use Rattle.handler_check.proofs.Tables.{Table}
use Rattle.handler_check.proofs.cut.cut_of.Given as goal

abbrev pub invariant-loop-at : goal.invariant-loop-at
invariant-loop-at g l = record {
  place : l.at ≡ code_end l.code.items;
  within : l.at ≤ l.end;
  fits : FitCode l.code.items;
  stands : HasCode l.code.items (g.M.Mem.bytes l.m);
  size : code_start + length l.firsts.items ≡ l.end;
  table : Table l.code.items l.firsts.items;
}

abbrev pub decreases-loop-at : goal.decreases-loop-at
decreases-loop-at g l = l.end - l.at
