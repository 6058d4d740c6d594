use Rattle.std.specs.List.{flat_map}
use Rattle.std.proofs.lemmas.List.{append-nil}
use Rattle.std.proofs.lemmas.Grind.{flat_map-append}
use Rattle.fz_shelf.specs.Parts.{behind_blank}
use Rattle.fz_shelf.proofs.Taking.{puts_next, puts_nothing, puts_stop}
use Rattle.fz_shelf.proofs.parts.put_numbers.Goals as goal

pub loop-number-init : goal.loop-number-init
loop-number-init g c = puts_nothing _

pub loop-number-preserved : goal.loop-number-preserved
loop-number-preserved g c = puts_next (flat_map behind_blank) (flat_map-append behind_blank) c.args.numbers.now
    c.loop-number.number-index _ c.loop-number-test.true (append-nil _) c.loop-number.invariant _
    c.in_ok-put_behind_blank.ensures

pub returns-in_err-put_behind_blank : goal.returns-in_err-put_behind_blank
returns-in_err-put_behind_blank g c = puts_stop (flat_map behind_blank) (flat_map-append behind_blank)
    c.args.numbers.now c.loop-number.number-index _ c.loop-number-test.true (append-nil _) c.loop-number.invariant
    c.in_err-put_behind_blank.ensures _ c.from_residual.ensures.0
