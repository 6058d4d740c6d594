use Rattle.std.proofs.Common.{take}
use Rattle.std.specs.List.{concat}
use Rattle.std.specs.Prelude.{Ok}
use Rattle.fz_shelf.specs.{Puts.Puts, declared.errors.Failed.Failed}
use Rattle.fz_shelf.proofs.whole.put_lines.Given as goal

abbrev pub invariant-loop-line : goal.invariant-loop-line
invariant-loop-line g l = Puts {E = Failed} g.S.Sink.told g.S.Sink.reliable l.initial.sink l.sink
    (concat (take l.line-index l.lines)) (Ok tt)
