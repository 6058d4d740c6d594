use Rattle.std.proofs.Common.{drop}
use Rattle.cpu12_isa.specs.Watching.{AreListed}
use Rattle.cpu12_isa.proofs.watching.any_listed.Given as goal

-- what has changed is still to come
abbrev pub invariant-loop-at : goal.invariant-loop-at
invariant-loop-at g l = AreListed (drop l.at-index l.written) l.table (g.M.Mem.bytes l.m)
