use Rattle.std.proofs.Common.{length, map}
use Rattle.fcl_syntax.specs.Readers.{many_at}
use Rattle.fcl_syntax.proofs.Run.{Going}
use Rattle.fcl_syntax.proofs.repeated.many.Given as goal

abbrev pub invariant-each : goal.invariant-each
invariant-each g l =
    Going g.R.Repeated.first g.R.Repeated.read_at (map g.R.Repeated.view l.items.items) l.tokens.now
    (many_at g.R.Repeated.first g.R.Repeated.read_at l.fn.tokens.now)

abbrev pub decreases-each : goal.decreases-each
decreases-each g l = length l.tokens.now
