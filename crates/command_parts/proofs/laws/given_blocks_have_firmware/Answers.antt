use Rattle.byte_scaling.specs.declared.width.Width.TheVariants.{Byte}
use Rattle.command_parts.specs.declared.firmware.Form.TheVariants.{Alone, Mailbox, Watched}
use Rattle.command_parts.proofs.laws.given_blocks_have_firmware.Goals as goal

pub returns : goal.returns
returns c (Alone width) text block gives =
    let (firmware, is, same) = c.blocks_have_firmware.ensures width block gives.spelled.valid gives.limits in
    (firmware, record { spelled = gives.spelled; limits = gives.limits; compiled = (is, same) })
returns c Mailbox text block gives =
    let (firmware, is, same) = c.blocks_have_mailboxes.ensures Byte block gives.spelled.valid gives.limits in
    (firmware, record { spelled = gives.spelled; limits = gives.limits; compiled = (is, same) })
returns c Watched text block gives =
    let (firmware, is) = c.blocks_have_watched_firmware.ensures block gives.spelled.valid gives.limits in
    (firmware, record { spelled = gives.spelled; limits = gives.limits; compiled = is })
