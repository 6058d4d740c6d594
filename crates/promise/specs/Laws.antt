-- Laws of the promise.
-- Beside the promise.
use Rattle.box_tree.specs.declared.cert.CertFormat.{CertFormat}
use Rattle.command_parts.specs.{Certs.AcceptsCert, Readings.GivesSome}
use Rattle.firmware_code.specs.Images.{IsImageOf}
use Rattle.alone_code.specs.Firmwares.{IsFirmwareOf, firmware_items}
use Rattle.firmware_code.specs.declared.firmware.Firmware.{Firmware}
use Rattle.cpu12_asm.specs.declared.image.Image.{Image}
use Rattle.eval_code.specs.MemoryMaps.{main_map}
use Rattle.byte_scaling.specs.declared.width.Width.{Width}
use Rattle.fcl_check.specs.Texts.{SpellsBlock}
use Rattle.fuzzy_meaning.specs.{Blocks.IsValid, declared.block.Block.Block}
use Rattle.interrupt_plan.specs.{Plans.Spells as SpellsPlan, declared.Request.Request}
use Rattle.promise.specs.Promise.{IsPrintable, Promise, Serves}
use Rattle.rule_layout.specs.Layouts.{IsWithinLimits}
use Rattle.run_reports.specs.CertifiedRun.{CertifiedRun, run_reading}
use Rattle.run_reports.specs.{Reports.Report, RowLines.run_lines}
use Rattle.run_reports.specs.declared.files.RunFiles.{RunFiles}
use Rattle.alone_runs.specs.Answering.{AnswersUnder}
use Rattle.run_law.specs.Forms.{RowSeen}
use Rattle.srecord.specs.Texts.{GivesImage}
use Rattle.std.specs.Prelude.{◌≡◌, ◌<◌, ◌^◌, ℕ, List, length}
use Rattle.std.specs.List.{concat}
use Rattle.trace_io.specs.{Traces.Spells as SpellsTrace, declared.sample.Sample.Sample}

-- What a block's firmware answers under a plan is served by its image.
abbrev pub AnswersServe : Type 0
AnswersServe = (width : Width) (flags : ℕ) (block : Block) (firmware : Firmware) (samples : List (List ℕ))
    (plan : List Request) (rows : List (RowSeen (List ℕ))) → flags < 2 ^ 8 → IsValid block → IsWithinLimits block
    → IsFirmwareOf block firmware → firmware.width ≡ width
    → AnswersUnder block firmware flags samples plan rows
    → Serves width (length block.outputs) flags firmware.image samples plan rows

-- A certified run keeps it.
abbrev pub CertifiedRunsKeepPromise : Type 0
CertifiedRunsKeepPromise = (format : CertFormat) (flags : ℕ) (files : RunFiles) (report : Report)
    (certified : CertifiedRun format flags files report)
    → flags < 2 ^ 8 → Promise format.width flags files report (concat (run_lines report certified.left))

-- The text has one list of errors and one bound, whatever report it is of.
abbrev pub PrintedNumbersAreOne : Type 0
PrintedNumbersAreOne = (block other : Block) (r s : Report) (left more : ℕ) → IsPrintable block r → IsPrintable other s
    → concat (run_lines r left) ≡ concat (run_lines s more) → (r.errors ≡ s.errors) × (r.bound ≡ s.bound)

-- FCL spells a block within the limits, IMAGE holds exactly its image, CERT is a certificate of this format that is
-- accepted, TRACE spells samples within their ranges, and PLAN a good plan.
pub record AreAccepted (format : CertFormat) (files : RunFiles) : Type 0 where
  pub block : Block
  pub spelled : SpellsBlock files.fcl block
  pub limits : IsWithinLimits block
  pub image : Image
  pub image_is : IsImageOf (firmware_items main_map block format.width) image
  pub records : GivesImage files.image image
  pub errors : List ℕ
  pub accepted : AcceptsCert format block files.inputs.cert errors
  pub samples : List Sample
  pub in_range : SpellsTrace block.inputs files.inputs.trace samples
  pub plan : List Request
  pub good_plan : SpellsPlan files.inputs.plan plan

-- Such files are those that the command accepts.
abbrev pub AcceptedFilesGiveFirmware : Type 0
AcceptedFilesGiveFirmware =
    (format : CertFormat) (files : RunFiles) → AreAccepted format files → GivesSome (run_reading format files)

-- The sentence with no program: accepted files have lines that keep the promise, with the errors that the certificate
-- is accepted with.
abbrev pub AcceptedFilesKeepPromise : Type 0
AcceptedFilesKeepPromise = (format : CertFormat) (flags : ℕ) (files : RunFiles) → flags < 2 ^ 8
    → (a : AreAccepted format files)
    → (report : Report) × (report.errors ≡ a.errors) × (text : List ℕ) × Promise format.width flags files report text
