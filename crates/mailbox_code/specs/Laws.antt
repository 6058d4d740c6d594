-- What the mailbox form rests on.
-- Beside the promise.
use Rattle.cpu12_isa.specs.Fits.{StaysFit}
use Rattle.eval_code.specs.Standing.{DecodesWhereItStands, CodeIsBytes}
use Rattle.firmware_code.specs.{Arrivals.FreeBytesLeave, Calls.CalledEvalReturns, Frames.StartArrives}
use Rattle.firmware_code.specs.Settings.{CallGoesOn, GivenIsLive, InstructionGoesOn, InstructionsStand, MaskedGoesOn}
use Rattle.firmware_code.specs.Standing.{ImageHasFirmware}

-- the laws of lower crates: of code in memory and its instructions, of samples, of EVAL where it is called, and of the
-- code that leads to where samples are waited for
pub record LowerLaws : Type 0 where
  pub stays_fit : StaysFit
  pub decodes : DecodesWhereItStands
  pub code_is_bytes : CodeIsBytes
  pub stand : InstructionsStand
  pub plain : InstructionGoesOn
  pub masked : MaskedGoesOn
  pub calls : CallGoesOn
  pub given : GivenIsLive
  pub called : CalledEvalReturns
  pub arrives : StartArrives
  pub firmware : ImageHasFirmware
  pub free : FreeBytesLeave
