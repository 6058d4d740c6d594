-- What the forms of firmware rest on.
-- Beside the promise.
use Rattle.byte_scaling.specs.Cells.{NearestIsByte}
use Rattle.rule_layout.specs.Layouts.{LayoutLaw}
use Rattle.cpu12_isa.specs.Fits.{StaysFit}
use Rattle.eval_code.specs.Standing.{DecodesWhereItStands, CodeIsBytes, BytesStand, ZeroBelow, ImageIsBytes}
use Rattle.eval_code.specs.Placed.{BlockRises, BlockIsShort, BlockHasParts, GivesBehind, BlockGivesBytes, BlockStands}
use Rattle.firmware_code.specs.Calls.{CalledEvalReturns}

-- the laws of lower crates: of blocks, of code and items in memory, and of EVAL where it is called
pub record LowerLaws : Type 0 where
  pub layout_law : LayoutLaw
  pub nearest_is_byte : NearestIsByte
  pub stays_fit : StaysFit
  pub decodes : DecodesWhereItStands
  pub code_is_bytes : CodeIsBytes
  pub bytes_stand : BytesStand
  pub zero_below : ZeroBelow
  pub image_is_bytes : ImageIsBytes
  pub called : CalledEvalReturns
  pub rises : BlockRises
  pub short : BlockIsShort
  pub parts : BlockHasParts
  pub behind : GivesBehind
  pub bytes : BlockGivesBytes
  pub stands : BlockStands
