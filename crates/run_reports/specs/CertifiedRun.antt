-- The certified run: what the program's answer to `run`, `run16`, `trun` and `trun16` says.
-- Beside the promise.
use Rattle.std.specs.Prelude.{◌≡◌, ℕ, List, map}
use Rattle.fuzzy_meaning.specs.declared.block.Block.{Block}
use Rattle.firmware_code.specs.declared.firmware.Firmware.{Firmware}
use Rattle.box_tree.specs.declared.cert.CertFormat.{CertFormat}
use Rattle.trace_io.specs.declared.sample.Sample.{Sample}
use Rattle.interrupt_plan.specs.declared.Request.{Request}
use Rattle.alone_runs.specs.Rows.{firmware_rows}
use Rattle.trace_io.specs.Traces.{input_bytes}
use Rattle.command_parts.specs.{Firmwares.firmware_in, Images.image_in}
use Rattle.command_parts.specs.Readings.{Gives, Reading, ◌then◌}
use Rattle.command_parts.specs.declared.firmware.{Compiled.Compiled, Form.TheVariants.Alone}
use Rattle.run_reports.specs.{Inputs.inputs_reading, Reports.IsReportOf, Reports.Report, Reports.left_of}
use Rattle.run_reports.specs.declared.files.RunFiles.{RunFiles}

-- FCL's firmware that stands alone, IMAGE of this firmware, CERT, TRACE and PLAN
abbrev pub run_reading : CertFormat → RunFiles
    → Reading (Compiled × (Unit {0} × (List ℕ × (List Sample × List Request))))
run_reading format files =
    firmware_in (Alone format.width) files.fcl then λ c.
    image_in files.image c.firmware.image then λ held.
    inputs_reading format c.block files.inputs

-- the files are accepted, and give this
abbrev pub AcceptsRun : CertFormat → RunFiles → Block → Firmware → List ℕ → List Sample → List Request → Type 0
AcceptsRun format files block firmware errors samples plan =
    Gives (run_reading format files)
    (record { block = block; firmware = firmware }, (tt, (errors, (samples, plan))))

-- Compile accepts the FCL text, IMAGE holds exactly its firmware's image, the checker accepts the certificate, the
-- trace spells samples within their inputs' ranges, and the plan interrupts that write only free bytes. The report is
-- of that, and so is what the run leaves in the free bytes and the stack.
pub record CertifiedRun (format : CertFormat) (flags : ℕ) (files : RunFiles) (report : Report)
    : Type 0 where
  pub block : Block
  pub firmware : Firmware
  pub samples : List Sample
  pub plan : List Request
  pub accepts : AcceptsRun format files block firmware report.errors samples plan
  pub reported : IsReportOf format.width flags block firmware samples plan report
  pub left : ℕ
  pub left_is : left ≡ left_of (firmware_rows firmware (map input_bytes samples) plan flags).state.mem
