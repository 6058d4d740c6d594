use Rattle.std.proofs.Common.{◌≡◌, length}
use Rattle.fz_shelf.proofs.Taking.{Putting}
use Rattle.fz_shelf.proofs.whole.put_all.Given as goal

abbrev pub invariant-loop-rest : goal.invariant-loop-rest
invariant-loop-rest g l = record {
  putting : Putting (g.S.Sink.told l.initial.sink).taken (g.S.Sink.told l.sink).taken l.bytes l.rest;
  faults : (g.S.Sink.told l.sink).faults ≡ (g.S.Sink.told l.initial.sink).faults;
  reliable : g.S.Sink.reliable l.initial.sink → g.S.Sink.reliable l.sink;
}

abbrev pub decreases-loop-rest : goal.decreases-loop-rest
decreases-loop-rest g l = length l.rest
