-- What stands in the memory of a firmware.
-- Beside the promise.
use Rattle.std.specs.Prelude.{◌≡◌, ℕ, ◌+◌, ◌^◌, ◌<◌, ◌≤◌, List, [], ◌∷◌, ◌++◌, length, All, slice_index}
use Rattle.fuzzy_meaning.specs.{declared.block.Block.Block, Blocks.IsValid}
use Rattle.rule_layout.specs.Layouts.{IsWithinLimits}
use Rattle.cpu12_isa.specs.declared.{instr.Instr.Instr, instr.Instr.TheVariants.Rts}
use Rattle.cpu12_isa.specs.{Code.code_bytes, Fits.AreBytes, Regions.vector}
use Rattle.cpu12_asm.specs.{Bytes.Holds, Items.given_by}
use Rattle.cpu12_emul.specs.Image.{image_memory}
use Rattle.eval_code.specs.declared.memory_map.MemoryMap.{MemoryMap}
use Rattle.byte_scaling.specs.declared.width.Width.{Width}
use Rattle.eval_code.specs.{Data.bytes_of_word, Evaluation.HasBytes, Items.IsApart}
use Rattle.eval_code.specs.{Items.block_items, Placed.IsInOrder, Placed.StandsBetween}
use Rattle.firmware_code.specs.{Calls.IsInCode, Calls.HasRoutine, Images.vector_items}

-- a memory has a block's firmware: EVAL with its data behind this code and before its return, and the reset vector.
-- Below the code it is 0.
pub record HasFirmware (l : MemoryMap) (b : Block) (w : Width) (before : List Instr) (mem : List ℕ) : Type 0 where
  pub size : length mem ≡ 65536
  pub bytes : AreBytes mem
  pub stands : StandsBetween l b w before (Rts ∷ []) mem
  pub routine : HasRoutine l b w mem
  pub reset : HasBytes mem 0xFFFE (bytes_of_word l.code)
  pub low : (at : ℕ) → at < l.code → slice_index mem at ≡ 0

-- So has that of an image of a block's items with the vectors behind them.
abbrev pub ImageHasFirmware : Type 0
ImageHasFirmware =
    (image : List (ℕ × ℕ)) (l : MemoryMap) (b : Block) (w : Width) (before : List Instr) → IsInOrder l before (Rts ∷ [])
    → IsApart l → IsInCode l → l.wait < l.eval → All (λ v. v < 2 ^ 8) (code_bytes before) → l.interrupt < 2 ^ 16
    → l.rules + 9984 ≤ vector → IsValid b → IsWithinLimits b
    → Holds image (given_by (block_items l b w before (Rts ∷ []) ++ vector_items l))
    → HasFirmware l b w before (image_memory image)
