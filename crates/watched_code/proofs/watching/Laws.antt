-- What a firmware with watched tables rests on.
use Rattle.watched_code.proofs.Words.{BlockGivesAtParts, FrameCallsAndLeaves, FreeBytesLeave, InstructionsStand}
use Rattle.watched_code.proofs.Words.{NearestIsByte}
use Rattle.eval_code.specs.{Placed.BlockHasParts}
use Rattle.firmware_code.specs.{Calls.CalledEvalReturns, Standing.ImageHasFirmware, Frames.StartArrives}
use Rattle.firmware_code.specs.{Settings.ReturnGoesOn, Settings.LiveIsInterruptible}
use Rattle.firmware_code.specs.{Settings.InstructionGoesOn, Settings.StraightInstructionGoesOn}
use Rattle.cpu12_isa.specs.Fits.{StaysFit}
use Rattle.eval_code.specs.Standing.{DecodesWhereItStands, CodeIsBytes}
use Rattle.firmware_code.specs.Settings.{LiveIsIdle, GivenIsLive}

-- the laws of lower crates
pub record WatchingLaws : Type 0 where
  pub nearest_is_byte : NearestIsByte
  pub stays_fit : StaysFit
  pub decodes : DecodesWhereItStands
  pub code_is_bytes : CodeIsBytes
  pub parts : BlockHasParts
  pub at_parts : BlockGivesAtParts
  pub stand : InstructionsStand
  pub plain : InstructionGoesOn
  pub straight : StraightInstructionGoesOn
  pub returns : ReturnGoesOn
  pub interruptible : LiveIsInterruptible
  pub idle : LiveIsIdle
  pub given : GivenIsLive
  pub called : CalledEvalReturns
  pub arrives : StartArrives
  pub turns : FrameCallsAndLeaves
  pub firmware : ImageHasFirmware
  pub free : FreeBytesLeave
