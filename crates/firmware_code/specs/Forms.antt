-- What is so of a form of firmware, by when a firmware is a block's in that form.
-- Beside the promise.
use Rattle.std.specs.Prelude.{◌≡◌}
use Rattle.fuzzy_meaning.specs.{declared.block.Block.Block, Blocks.IsValid}
use Rattle.rule_layout.specs.Layouts.{IsWithinLimits}
use Rattle.byte_scaling.specs.declared.width.Width.{Width}
use Rattle.cpu12_isa.specs.Fits.{AreBytes}
use Rattle.cpu12_emul.specs.Image.{image_memory}
use Rattle.firmware_code.specs.declared.firmware.Firmware.{Firmware}

-- A valid block within the limits has one of each width.
abbrev pub BlocksHave : (Block → Firmware → Type 0) → Type 0
BlocksHave IsOf =
    (width : Width) (b : Block) → IsValid b → IsWithinLimits b → (f : Firmware) × IsOf b f × (f.width ≡ width)

-- In one width it has one.
abbrev pub BlocksHaveOne : (Block → Firmware → Type 0) → Type 0
BlocksHaveOne IsOf = (b : Block) (f g : Firmware) → f.width ≡ g.width → IsOf b f → IsOf b g → f ≡ g

-- The memory of its image is one of bytes.
abbrev pub ImagesAreBytes : (Block → Firmware → Type 0) → Type 0
ImagesAreBytes IsOf =
    (b : Block) (f : Firmware) → IsValid b → IsWithinLimits b → IsOf b f → AreBytes (image_memory f.image.bytes)
