-- The firmware of a block that stands alone.
-- Beside the promise.
use Rattle.std.specs.Prelude.{◌≡◌, List, [], ◌∷◌, ◌++◌, length}
use Rattle.fuzzy_meaning.specs.declared.block.Block.{Block}
use Rattle.byte_scaling.specs.declared.width.Width.{Width}
use Rattle.cpu12_isa.specs.declared.instr.Instr.TheVariants.{Rts}
use Rattle.cpu12_asm.specs.declared.items.Item.{Item}
use Rattle.firmware_code.specs.{declared.firmware.Firmware.Firmware, Code.frame_code, Images.vector_items}
use Rattle.firmware_code.specs.{Images.IsImageOf, Forms.BlocksHave, Forms.BlocksHaveOne, Forms.ImagesAreBytes}
use Rattle.eval_code.specs.{declared.memory_map.MemoryMap.MemoryMap, Items.block_items}
use Rattle.eval_code.specs.{MemoryMaps.main_map, Bounds.instruction_bound, Bounds.step_bound}

-- a firmware that stands alone: its block's items with the frame and the return, the vectors, and nothing else
abbrev pub firmware_items : MemoryMap → Block → Width → List Item
firmware_items l b w = block_items l b w (frame_code l) (Rts ∷ []) ++ vector_items l

-- a firmware is a block's, and stands alone: its image has just the bytes of the block's items, its memory map is
-- theirs, and its counts and bounds are the block's
pub record IsFirmwareOf (b : Block) (f : Firmware) : Type 0 where
  pub image : IsImageOf (firmware_items main_map b f.width) f.image
  pub memory_map : f.memory_map ≡ main_map
  pub inputs : f.inputs ≡ length b.inputs
  pub outputs : f.outputs ≡ length b.outputs
  pub instructions : f.instr_bound ≡ instruction_bound f.width b
  pub steps : f.step_bound ≡ step_bound f.width b

-- A valid block within the limits has one of each width.
abbrev pub BlocksHaveFirmware : Type 0
BlocksHaveFirmware = BlocksHave IsFirmwareOf

-- In one width it has one.
abbrev pub FirmwaresAreOne : Type 0
FirmwaresAreOne = BlocksHaveOne IsFirmwareOf

-- The memory of its image is one of bytes.
abbrev pub FirmwareIsBytes : Type 0
FirmwareIsBytes = ImagesAreBytes IsFirmwareOf
