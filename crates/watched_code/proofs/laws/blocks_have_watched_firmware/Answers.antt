use Rattle.watched_code.proofs.Words.{Byte, refl, watched_bound, watched_items}
use Rattle.watched_code.specs.WatchedCode.{watched_map}
use Rattle.firmware_code.proofs.Algebra.{firmware_with}
use Rattle.watched_code.proofs.watching.Answering.{watched_rise}
use Rattle.watched_code.proofs.laws.blocks_have_watched_firmware.Goals as goal

pub returns : goal.returns
returns c b valid limits =
    let rise = watched_rise c.blocks_are_placed.ensures.rises b valid limits in
    let is = c.items_have_images.ensures (watched_items b) rise in (
      firmware_with (watched_map b) Byte (watched_bound b) b _,
      record {
        image = is;
        memory_map = refl;
        inputs = refl;
        outputs = refl;
        width = refl;
        instructions = refl;
        steps = refl;
      },
    )
