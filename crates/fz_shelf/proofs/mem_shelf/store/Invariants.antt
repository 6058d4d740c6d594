use Rattle.std.proofs.Common.{◌≡◌}
use Rattle.fz_shelf.proofs.mem_shelf.store.Given as goal

abbrev pub invariant-loop-file : goal.invariant-loop-file
invariant-loop-file l = l.all.items ≡ l.yielded
