-- What the firmware that stands alone rests on.
-- Beside the promise.
use Rattle.cpu12_isa.specs.Fits.{StaysFit}
use Rattle.eval_code.specs.Standing.{DecodesWhereItStands, CodeIsBytes}
use Rattle.firmware_code.specs.{Calls.CalledEvalReturns, Settings.GivenIsLive, Standing.ImageHasFirmware}
use Rattle.firmware_code.specs.Frames.{FrameCallsAndLeaves, StartArrives, StartArrivesAlike}

-- the laws of lower crates: of code in memory, of samples, of EVAL where it is called, and of the frame around it
pub record LowerLaws : Type 0 where
  pub stays_fit : StaysFit
  pub decodes : DecodesWhereItStands
  pub code_is_bytes : CodeIsBytes
  pub given : GivenIsLive
  pub called : CalledEvalReturns
  pub arrives : StartArrives
  pub alike : StartArrivesAlike
  pub turns : FrameCallsAndLeaves
  pub firmware : ImageHasFirmware
