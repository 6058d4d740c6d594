-- What commands write of firmware and images.
-- Beside the promise.
use Rattle.std.specs.Prelude.{◌≡◌, ℕ, List, [], ◌∷◌, length, codes, Some}
use Rattle.fuzzy_meaning.specs.declared.block.Block.{Block}
use Rattle.eval_code.specs.Bounds.{steps_by}
use Rattle.firmware_code.specs.declared.firmware.Firmware.{Firmware}
use Rattle.cpu12_asm.specs.declared.image.Image.{Image}
use Rattle.srecord.specs.Images.{ImageText}
use Rattle.command_parts.specs.{SeenOutputs.SeenOutput, Lines.line}

-- the file of this word is to hold the records of the image, and these are the lines for out
pub record WritesImage (image : Image) (place : ℕ) (lines : List (List ℕ)) (output : SeenOutput) : Type 0 where
  pub records : List ℕ
  pub of_image : ImageText image.bytes image.start records
  pub output_is : output ≡ record { lines = lines; file = Some (place, records) }

-- the bounds of firmware, and how many bytes its image has
abbrev pub compile_lines : ℕ → ℕ → ℕ → List (List ℕ)
compile_lines instructions steps bytes =
    line (codes "instructions ") instructions ∷ line (codes "steps ") steps ∷ line (codes "bytes ") bytes ∷ []

-- a text gives firmware of one form, whose bound on instructions this is; OUT is to hold the records of its image, and
-- the lines are of its bounds and its bytes
pub record WritesFirmware (Gives : Block → Firmware → Type 0) (bound : Block → ℕ) (output : SeenOutput) : Type 0 where
  pub block : Block
  pub firmware : Firmware
  pub gives : Gives block firmware
  pub writes : WritesImage firmware.image 3
      (compile_lines (bound block) (steps_by block (bound block)) (length firmware.image.bytes)) output
