-- The run of a firmware with watched tables: what the program's answer to `srun` and `tsrun` says.
-- Beside the promise.
use Rattle.std.specs.Prelude.{◌≡◌, ℕ, ◌≤◌, List, All, map}
use Rattle.fuzzy_meaning.specs.declared.block.Block.{Block}
use Rattle.watched_code.specs.Watched.{watched_bound}
use Rattle.firmware_code.specs.declared.firmware.Firmware.{Firmware}
use Rattle.box_tree.specs.declared.cert.CertKind.{CertKind}
use Rattle.box_tree.specs.Texts.{format_of}
use Rattle.byte_scaling.specs.declared.width.Width.TheVariants.{Byte}
use Rattle.trace_io.specs.{Traces.input_bytes, declared.sample.Sample.Sample}
use Rattle.interrupt_plan.specs.UpsetTexts.{HasUpsetFault, SpellsUpsets}
use Rattle.interrupt_plan.specs.declared.{Request.Request, upsets.Upset.Upset}
use Rattle.watched_runs.specs.{Answering.AnswersUnderUpsets, Rows.FaultSeen, Rows.faults_of, Rows.upset_rows}
use Rattle.run_reports.specs.{Faultless.FaultlessAreWithinErrors, Inputs.plan_in, Inputs.trace_in}
use Rattle.run_reports.specs.declared.files.WatchedFiles.{WatchedFiles}
use Rattle.command_parts.specs.{Certs.cert_in, Firmwares.firmware_in, Images.image_in}
use Rattle.command_parts.specs.Readings.{Gives, Reading, Stage, last, ◌then◌}
use Rattle.fz_status.specs.Refusals.{Refusals}
use Rattle.fz_status.specs.declared.status.Status.TheVariants as status
use Rattle.command_parts.specs.declared.firmware.{Compiled.Compiled, Form.TheVariants.Watched}

-- what is told of a run: an error for each output, in millionths of its range, the bound on instructions, and a row for
-- each sample, with FAULT
pub record WatchedReport : Type 0 where
  pub errors : List ℕ
  pub bound : ℕ
  pub rows : List FaultSeen

-- why a text gives no upsets of an image
abbrev pub upset_refusals : List (ℕ × ℕ) → List ℕ → Refusals
upset_refusals image text (status.Upset f) = HasUpsetFault image text f
upset_refusals image text s = ⊥

-- the upsets of an image
abbrev pub upsets_in : List (ℕ × ℕ) → List ℕ → Stage (List Upset)
upsets_in image text = record {
  gives = SpellsUpsets image text;
  Seen = List Upset;
  seen = λ upsets. upsets;
  refuses = upset_refusals image text;
}

-- FCL's firmware with watched tables, IMAGE of this firmware, CERT, TRACE and PLAN, and UPSETS of the image
abbrev pub watched_reading : CertKind → WatchedFiles
    → Reading (Compiled × (Unit {0} × (List ℕ × (List Sample × (List Request × List Upset)))))
watched_reading kind files =
    firmware_in Watched files.fcl then λ c.
    image_in files.image c.firmware.image then λ held.
    cert_in (format_of kind Byte) c.block files.inputs.cert then λ errors.
    trace_in c.block files.inputs.trace then λ seen.
    plan_in files.inputs.plan then λ plan.
    last (upsets_in c.firmware.image.bytes files.upsets)

-- the files are accepted, and give this
abbrev pub AcceptsWatched : CertKind → WatchedFiles → Block → Firmware → List ℕ → List Sample → List Request
    → List Upset → Type 0
AcceptsWatched kind files block firmware errors samples plan upsets =
    Gives (watched_reading kind files)
    (record { block = block; firmware = firmware }, (tt, (errors, (samples, (plan, upsets)))))

-- Compile accepts the FCL text, IMAGE holds exactly the image of its firmware with watched tables, the checker accepts
-- the certificate, the trace spells samples within their inputs' ranges, the plan interrupts that write only free
-- bytes, and the upsets bytes of the image's tables. The report is of the firmware's run: the emulated image answers
-- each sample as it does without interrupts, by the block over bytes and FAULT 0, but by the outputs' defaults and
-- FAULT 1 where a byte of its tables is another, in at most the printed number of instructions; and where FAULT is 0 it
-- answers within the printed error of FCL's exact fraction, with NC as long as FAULT was 0 before.
pub record WatchedRun (kind : CertKind) (flags : ℕ) (files : WatchedFiles) (report : WatchedReport) : Type 0 where
  pub block : Block
  pub firmware : Firmware
  pub samples : List Sample
  pub plan : List Request
  pub upsets : List Upset
  pub accepts : AcceptsWatched kind files block firmware report.errors samples plan upsets
  pub ran : report.rows ≡ faults_of firmware (upset_rows firmware (map input_bytes samples) plan upsets flags)
  pub answers : AnswersUnderUpsets block firmware flags (map input_bytes samples) plan upsets report.rows
  pub bound : report.bound ≡ watched_bound block
  pub instructions : All (λ r. r.row.instrs ≤ report.bound) report.rows
  pub within : FaultlessAreWithinErrors block report.errors samples report.rows
