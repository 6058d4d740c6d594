-- The memory of an image has a block's firmware.
use Rattle.firmware_code.proofs.Words.{[], ◌++◌, ◌<◌, ◌∷◌, arith, block_items, image_memory, LowerLaws, Rts}
use Rattle.firmware_code.proofs.Words.{vector_items}
use Rattle.firmware_code.specs.{Standing.ImageHasFirmware}
use Rattle.firmware_code.proofs.{runs.Arriving.zero_below, runs.Founding.start_stands, runs.Founding.has_routine}
use Rattle.firmware_code.proofs.runs.Placing.{few_slots, whole_rises, whole_stands, whole_fits}

pub has_firmware : LowerLaws → ImageHasFirmware
has_firmware laws image l b w before o a inside above fit i top v limits h =
    let back = Rts ∷ [] in
    let items = block_items l b w before back in
    let mem = image_memory image in
    let rise = whole_rises laws.rises l b w before back o v limits top in
    let stands = whole_stands laws.stands image l b w before back o v limits h rise in
    let code : l.code < 65536 = omega (arith, o.eval, o.code, o.tables, o.singletons, o.weights, o.rules) in
    let fits = whole_fits laws l b w before back a v fit (laws.code_is_bytes back (tt, tt)) i code in
    let image_fits = laws.image_is_bytes image (items ++ vector_items l) h fits in
    record {
      size = image_fits.0;
      bytes = image_fits.1;
      stands = stands;
      routine = has_routine l b w before mem above inside (few_slots laws.layout_law b v) stands;
      reset = start_stands laws.bytes_stand image items l h rise;
      low = λ at lt. zero_below laws.zero_below image l b w before back (vector_items l) h rise at lt (omega arith);
    }
