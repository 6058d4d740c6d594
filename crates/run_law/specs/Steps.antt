-- What is known of one step, and of interrupts between steps.
-- Beside the promise.
use Rattle.cpu12_isa.specs.{declared.instr.Instr.Instr, Agreement.WritesStay, Code.DecodedHasOpcode, Fits.BytesStay}
use Rattle.cpu12_isa.specs.declared.instr.Instr.TheVariants.{Rev, Revw, Wav}
use Rattle.cpu12_isa.specs.Interrupts.{HidesMoreAbove, ShowsFromSp, HidesPushed}
use Rattle.cpu12_parts.specs.{Parts.Kind, Parts.rev, Parts.revw, Parts.wav, Fits.PartFits}
use Rattle.cpu12_parts.specs.Inside.{own_address, second_byte, GoesOnAt, LeavesSums, WritesNothing, PushesRunning}
use Rattle.cpu12_parts.specs.Inside.{PushesNone}
use Rattle.cpu12_parts.specs.Laws.{Any, AreKept, IsSteady, RevIsWhole, RevwIsWhole, WavIsWhole}
use Rattle.cpu12_emul.specs.Simulation.{PlainIsStep, PartIsStep, SumsAreStep, StepKeeps, FrameIsOnStack}

-- the laws of writes, of an instruction whose parts leave the sums, and of WAV
pub record WriteLaws : Type 0 where
  pub writes_stay : WritesStay
  pub bytes_stay : BytesStay

pub record RuleLaws (i : Instr) (k : Kind) : Type 0 where
  pub is_step : PartIsStep i k
  pub fits : PartFits k
  pub goes_on : GoesOnAt own_address k
  pub sums : LeavesSums k
  pub steady : IsSteady k Any

pub record SumLaws : Type 0 where
  pub first_is_step : PartIsStep Wav wav
  pub sums_are_step : SumsAreStep
  pub fits : PartFits wav
  pub goes_on : GoesOnAt second_byte wav
  pub writes : WritesNothing wav
  pub steady : IsSteady wav AreKept

-- the laws of steps: a plain instruction is one, and so is each part of REV, REVW and WAV
pub record StepLaws : Type 0 where
  pub decoded_has_opcode : DecodedHasOpcode
  pub writes : WriteLaws
  pub plain_is_step : PlainIsStep
  pub rev : RuleLaws Rev rev
  pub revw : RuleLaws Revw revw
  pub wav : SumLaws
  pub rev_is_whole : RevIsWhole
  pub revw_is_whole : RevwIsWhole
  pub wav_is_whole : WavIsWhole

-- the laws of a step beside hidden bytes, of what an interrupt pushes and of what is hidden then
pub record MachineLaws : Type 0 where
  pub step_keeps : StepKeeps
  pub frame_is_on_stack : FrameIsOnStack
  pub more : HidesMoreAbove
  pub shown : ShowsFromSp
  pub pushed : HidesPushed
  pub running : PushesRunning
  pub none : PushesNone
