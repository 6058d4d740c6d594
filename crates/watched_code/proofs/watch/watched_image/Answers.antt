use Rattle.watched_code.proofs.Words.{◌<◌, ◌^◌, ◌∙◌, IsRising, length, List, subst, sym}
use Rattle.cpu12_asm.specs.{declared.items.Item.Item}
use Rattle.watched_code.proofs.watching.Answering.{watched_rise, length-watched_items}
use Rattle.watched_code.proofs.watch.watched_image.Goals as goal

pub image_of-requires-clause-few : goal.image_of-requires-clause-few
image_of-requires-clause-few c =
    let laid = c.args.laid_out.now in
    let e = c.as_slice.ensures.value ∙ c.in_ok-items.ensures in
    subst (λ (xs : List Item). length xs < 2 ^ 32) (sym e)
    (length-watched_items c.blocks_are_placed.ensures.short laid.block.now laid.valid laid.limits)

pub image_of-requires-clause-rising : goal.image_of-requires-clause-rising
image_of-requires-clause-rising c =
    let laid = c.args.laid_out.now in
    let e = c.as_slice.ensures.value ∙ c.in_ok-items.ensures in
    subst (λ (xs : List Item). IsRising xs) (sym e)
    (watched_rise c.blocks_are_placed.ensures.rises laid.block.now laid.valid laid.limits)
