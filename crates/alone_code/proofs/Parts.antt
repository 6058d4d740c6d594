-- A firmware that stands alone is its parts.
use Rattle.alone_code.proofs.Words.{Block, Firmware, firmware_items, instruction_bound, IsImageOf, main_map, refl}
use Rattle.alone_code.proofs.Words.{Width}
use Rattle.cpu12_asm.specs.declared.image.Image.{Image}
use Rattle.alone_code.specs.Firmwares.{IsFirmwareOf}
use Rattle.firmware_code.proofs.Algebra.{firmware_with}

-- that which stands alone
abbrev pub alone_with : Width → Block → Image → Firmware
alone_with width b image = firmware_with main_map width (instruction_bound width b) b image

pub alone_is : (width : Width) (b : Block) (image : Image) → IsImageOf (firmware_items main_map b width) image
    → IsFirmwareOf b (alone_with width b image)
alone_is width b image is =
    record { image = is; memory_map = refl; inputs = refl; outputs = refl; instructions = refl; steps = refl }
