-- The block and the firmware of a text.
-- Beside the promise.
use Rattle.std.specs.Prelude.{◌≡◌, ℕ, List}
use Rattle.fuzzy_meaning.specs.declared.block.Block.{Block}
use Rattle.byte_scaling.specs.declared.width.Width.TheVariants.{Byte}
use Rattle.rule_layout.specs.Layouts.{IsWithinLimits, IsFaultOf as IsLayoutFault}
use Rattle.firmware_code.specs.declared.firmware.Firmware.{Firmware}
use Rattle.alone_code.specs.Firmwares.{IsFirmwareOf}
use Rattle.mailbox_code.specs.Mailboxes.{IsMailboxOf}
use Rattle.watched_code.specs.Watched.{IsWatchedFirmwareOf}
use Rattle.fcl_syntax.specs.Text.{IsFirstFault}
use Rattle.fcl_check.specs.Texts.{SpellsBlock, HasLoadFault}
use Rattle.command_parts.specs.Readings.{IsExact, Stage}
use Rattle.command_parts.specs.declared.firmware.{Form.Form, Form.TheVariants.Alone, Form.TheVariants.Mailbox}
use Rattle.command_parts.specs.declared.firmware.{Compiled.Compiled, Form.TheVariants.Watched}
use Rattle.fz_status.specs.{Refusals.Refusals, declared.status.FclFault.FclFault}
use Rattle.fz_status.specs.declared.status.FclFault.TheVariants as fcl
use Rattle.fz_status.specs.declared.status.Status.TheVariants as status

-- the block is the text's, and it can be laid out
pub record GivesBlock (text : List ℕ) (block : Block) : Type 0 where
  pub spelled : SpellsBlock text block
  pub limits : IsWithinLimits block

-- the firmware is the block's, of this form
abbrev pub IsOfForm : Form → Block → Firmware → Type 0
IsOfForm (Alone width) block firmware = IsFirmwareOf block firmware × (firmware.width ≡ width)
IsOfForm Mailbox block firmware = IsMailboxOf block firmware × (firmware.width ≡ Byte)
IsOfForm Watched block firmware = IsWatchedFirmwareOf block firmware

-- the block is the text's, it can be laid out, and the firmware is the block's, of this form
pub record GivesFirmware (form : Form) (text : List ℕ) (block : Block) (firmware : Firmware) : Type 0 where
  pub spelled : SpellsBlock text block
  pub limits : IsWithinLimits block
  pub compiled : IsOfForm form block firmware

-- why a text gives no firmware, in any form
abbrev pub RefusesText : List ℕ → FclFault → Type 0
RefusesText text (fcl.Syntax f) = IsFirstFault text f
RefusesText text (fcl.Load f) = HasLoadFault text f
RefusesText text (fcl.Layout f) = (block : Block) × SpellsBlock text block × IsLayoutFault block f

abbrev pub text_refusals : List ℕ → Refusals
text_refusals text (status.Fcl f) = RefusesText text f
text_refusals text s = ⊥

-- the block of a text
abbrev pub block_in : List ℕ → Stage Block
block_in text = record { gives = GivesBlock text; Seen = Block; seen = λ block. block; refuses = text_refusals text }

abbrev pub BlocksAreExact : Type 0
BlocksAreExact = (text : List ℕ) → IsExact (block_in text)

-- the block of a text, with its firmware of this form
abbrev pub firmware_in : Form → List ℕ → Stage Compiled
firmware_in form text = record {
  gives = λ c. GivesFirmware form text c.block c.firmware;
  Seen = Compiled;
  seen = λ c. c;
  refuses = text_refusals text;
}

abbrev pub FirmwaresAreExact : Type 0
FirmwaresAreExact = (form : Form) (text : List ℕ) → IsExact (firmware_in form text)

-- a text that gives a block gives firmware of each form
abbrev pub GivenBlocksHaveFirmware : Type 0
GivenBlocksHaveFirmware =
    (form : Form) (text : List ℕ) (block : Block) → GivesBlock text block
    → (firmware : Firmware) × GivesFirmware form text block firmware
