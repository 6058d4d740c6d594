-- The slow firmware beside a fast block.
-- Beside the promise.
use Rattle.std.specs.Prelude.{◌≡◌, ℕ, ◌^◌, ◌<◌}
use Rattle.fuzzy_meaning.specs.{declared.block.Block.Block, Blocks.IsValid}
use Rattle.rule_layout.specs.Layouts.{IsWithinLimits}
use Rattle.cpu12_isa.specs.{Agreement.Agree, Fits.AreBytes, Regions.vector_word}
use Rattle.cpu12_emul.specs.Image.{image_memory}
use Rattle.byte_scaling.specs.declared.width.Width.TheVariants.{Byte}
use Rattle.eval_code.specs.Evaluation.{HasAnswers}
use Rattle.firmware_code.specs.Arrivals.{LeavesMapped}
use Rattle.alone_code.specs.Answers.{AnswersBeside, ArrivesAlike}
use Rattle.two_level_code.specs.declared.two.Two.{Two}
use Rattle.two_level_code.specs.{MemoryMaps.fast_map, MemoryMaps.is_open_to_fast, Running.LetsIn}
use Rattle.two_level_code.specs.Images.{joint_memory, slow_alone, IsTwoOf}

-- Memory from the image is one of bytes: an interrupt enters the fast code, which lets interrupts in at once and whose
-- outputs are 0; and it is as the slow firmware's alone but for what is open to the fast block, which leaves the slow
-- firmware's memory map.
pub record StandsBeside (slow fast : Block) (two : Two) : Type 0 where
  pub bytes : AreBytes (joint_memory two)
  pub enters : vector_word (joint_memory two) ≡ fast_map.code
  pub lets_in : LetsIn (joint_memory two)
  pub outputs : HasAnswers fast_map fast Byte (λ o. 0) (joint_memory two)
  pub leaves : LeavesMapped is_open_to_fast (slow_alone slow two).memory_map
  pub alike : Agree is_open_to_fast (joint_memory two) (image_memory (slow_alone slow two).image.bytes)

-- Beside interrupts to which all that is open, the slow firmware alone answers every list of samples; from reset over
-- the image it comes where it waits for them in the same state but for that, which is as it was.
pub record SlowAnswersBeside (slow : Block) (two : Two) : Type 0 where
  pub answers : AnswersBeside is_open_to_fast slow (slow_alone slow two)
  pub arrives : (flags : ℕ) → flags < 2 ^ 8
      → ArrivesAlike is_open_to_fast (slow_alone slow two).memory_map (image_memory (slow_alone slow two).image.bytes)
      (joint_memory two) flags

-- So do those of two blocks.
abbrev pub TwoStandBeside : Type 0
TwoStandBeside =
    (slow fast : Block) (two : Two) → IsValid slow → IsWithinLimits slow → IsValid fast → IsWithinLimits fast
    → IsTwoOf slow fast two → StandsBeside slow fast two × SlowAnswersBeside slow two
