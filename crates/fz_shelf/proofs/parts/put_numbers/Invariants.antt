use Rattle.std.specs.List.{flat_map}
use Rattle.std.proofs.Common.{take}
use Rattle.std.specs.Prelude.{Ok}
use Rattle.fz_shelf.specs.{Parts.behind_blank, Puts.Puts, declared.errors.Failed.Failed}
use Rattle.fz_shelf.proofs.parts.put_numbers.Given as goal

abbrev pub invariant-loop-number : goal.invariant-loop-number
invariant-loop-number g l = Puts {E = Failed} g.S.Sink.told g.S.Sink.reliable l.initial.sink l.sink
    (flat_map behind_blank (take l.number-index l.numbers)) (Ok tt)
