-- The image of a slow firmware with a fast block.
-- Beside the promise.
use Rattle.std.specs.Prelude.{◌≡◌, ℕ, ◌-◌, List, [], ◌∷◌, ◌++◌, length}
use Rattle.fuzzy_meaning.specs.{declared.block.Block.Block, Blocks.IsValid}
use Rattle.rule_layout.specs.Layouts.{IsWithinLimits}
use Rattle.cpu12_isa.specs.declared.instr.Instr.TheVariants.{Rts}
use Rattle.cpu12_asm.specs.declared.items.Item.{Item}
use Rattle.firmware_code.specs.declared.firmware.Firmware.{Firmware}
use Rattle.firmware_code.specs.{Code.frame_code, Images.image_of, Images.vector_items, Images.IsImageOf}
use Rattle.alone_code.specs.Firmwares.{IsFirmwareOf, firmware_items}
use Rattle.byte_scaling.specs.declared.width.Width.TheVariants.{Byte}
use Rattle.cpu12_emul.specs.Image.{image_memory}
use Rattle.eval_code.specs.{declared.memory_map.MemoryMap.MemoryMap, MemoryMaps.main_map, Items.block_items}
use Rattle.eval_code.specs.Bounds.{instruction_bound, step_bound}
use Rattle.two_level_code.specs.declared.two.{FastCode.FastCode, Two.Two}
use Rattle.two_level_code.specs.MemoryMaps.{fast_front, fast_back, fast_map, slow_map}

-- the fast block's code and data
abbrev pub fast_items : Block → List Item
fast_items b = block_items fast_map b Byte fast_front fast_back

-- those of the slow firmware that stands alone, but for the interrupt's vector
abbrev pub slow_items : Block → List Item
slow_items b = block_items main_map b Byte (frame_code main_map) (Rts ∷ []) ++ vector_items slow_map

-- the first, and then the others
abbrev pub two_items : Block → Block → List Item
two_items slow fast = fast_items fast ++ slow_items slow

-- memory from the image of both
abbrev pub joint_memory : Two → List ℕ
joint_memory two = image_memory two.firmware.image.bytes

-- the slow firmware as it stands alone: in an image of its own block's items, from whose interrupts it returns at once
abbrev pub alone_map : MemoryMap → MemoryMap
alone_map l = record l { interrupt = main_map.interrupt }

abbrev pub slow_alone : Block → Two → Firmware
slow_alone b two =
    let f = two.firmware in
    record f { image = image_of (firmware_items main_map b Byte); memory_map = alone_map f.memory_map }

-- a block's firmware that answers bytes and stands alone
pub record IsAlone (b : Block) (f : Firmware) : Type 0 where
  pub firmware : IsFirmwareOf b f
  pub width : f.width ≡ Byte

-- the bounds of a firmware are the block's, for answers of bytes
pub record HasByteBounds (b : Block) (f : Firmware) : Type 0 where
  pub instructions : f.instr_bound ≡ instruction_bound Byte b
  pub steps : f.step_bound ≡ step_bound Byte b

-- Those of each firmware that answers bytes and stands alone are.
abbrev pub AloneHasByteBounds : Type 0
AloneHasByteBounds = (b : Block) (f : Firmware) → IsAlone b f → HasByteBounds b f

-- the outputs are the block's, and so are the bounds, for answers of bytes
pub record IsFastOf (b : Block) (f : FastCode) : Type 0 where
  pub outputs : f.outputs ≡ length b.outputs
  pub instructions : f.instr_bound ≡ instruction_bound Byte b
  pub steps : f.step_bound ≡ step_bound Byte b

-- The image has just the bytes of both; all else of the firmware, but for its interrupt, is the slow block's alone.
pub record IsTwoOf (slow fast : Block) (two : Two) : Type 0 where
  pub image : IsImageOf (two_items slow fast) two.firmware.image
  pub memory_map : two.firmware.memory_map ≡ slow_map
  pub alone : IsAlone slow (slow_alone slow two)
  pub fast_is : IsFastOf fast two.fast

-- Valid blocks within the limits have one.
abbrev pub BlocksHaveTwos : Type 0
BlocksHaveTwos =
    (slow fast : Block) → IsValid slow → IsWithinLimits slow → IsValid fast → IsWithinLimits fast
    → (two : Two) × IsTwoOf slow fast two

-- the most instructions or steps of the fast code, by those of its block alone: two instructions stand around EVAL in
-- the place of six
abbrev pub fast_most : ℕ → ℕ
fast_most bound = bound - 4
