use Rattle.mailbox_code.proofs.Words.{length, mailbox_bound, mailbox_items, mailbox_map, refl}
use Rattle.firmware_code.proofs.Algebra.{firmware_with}
use Rattle.mailbox_code.proofs.turns.Founding.{mailbox_rises}
use Rattle.mailbox_code.proofs.laws.blocks_have_mailboxes.Goals as goal

pub returns : goal.returns
returns c width b valid limits =
    let l = mailbox_map (length b.inputs) in
    let rise = mailbox_rises c.blocks_are_placed.ensures.rises b width valid limits in
    let is = c.items_have_images.ensures (mailbox_items l b width) rise in (
      firmware_with l width (mailbox_bound width b) b _,
      record { image = is; memory_map = refl; inputs = refl; outputs = refl; instructions = refl; steps = refl },
      refl,
    )
