use Rattle.std.proofs.lemmas.List.{append-nil}
use Rattle.std.proofs.lemmas.Grind.{flat_map-append}
use Rattle.fz_shelf.specs.Parts.{part_text, parts_text}
use Rattle.fz_shelf.proofs.Taking.{puts_next, puts_nothing, puts_stop}
use Rattle.fz_shelf.proofs.parts.put_parts.Goals as goal

pub loop-part-init : goal.loop-part-init
loop-part-init g c = puts_nothing _

pub loop-part-preserved : goal.loop-part-preserved
loop-part-preserved g c = puts_next parts_text (flat_map-append part_text) c.args.parts.now c.loop-part.part-index _
    c.loop-part-test.true (append-nil _) c.loop-part.invariant _ c.in_ok-put_part.ensures

pub returns-in_err-put_part : goal.returns-in_err-put_part
returns-in_err-put_part g c = puts_stop parts_text (flat_map-append part_text) c.args.parts.now
    c.loop-part.part-index _ c.loop-part-test.true (append-nil _) c.loop-part.invariant c.in_err-put_part.ensures _
    c.from_residual.ensures.0
