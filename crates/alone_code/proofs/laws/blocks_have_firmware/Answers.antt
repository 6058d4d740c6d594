use Rattle.alone_code.proofs.Words.{firmware_items, main_map, refl}
use Rattle.alone_code.proofs.runs.Law.{main_rises}
use Rattle.alone_code.proofs.Parts.{alone_is, alone_with}
use Rattle.alone_code.proofs.laws.blocks_have_firmware.Goals as goal

pub returns : goal.returns
returns c width b valid limits =
    let rise = main_rises c.blocks_are_placed.ensures.rises b width valid limits in
    let is = c.items_have_images.ensures (firmware_items main_map b width) rise in
    (alone_with width b _, alone_is width b _ is, refl)
