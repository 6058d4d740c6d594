use Rattle.std.proofs.Common.{take}
use Rattle.std.specs.Prelude.{Ok}
use Rattle.fz_shelf.specs.{Parts.parts_text, Puts.Puts, declared.errors.Failed.Failed}
use Rattle.fz_shelf.proofs.parts.put_parts.Given as goal

abbrev pub invariant-loop-part : goal.invariant-loop-part
invariant-loop-part g l = Puts {E = Failed} g.S.Sink.told g.S.Sink.reliable l.initial.sink l.sink
    (parts_text (take l.part-index l.parts)) (Ok tt)
