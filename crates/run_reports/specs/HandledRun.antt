-- The certified run whose interrupts run a handler's code: what the program's answer to `hrun` and `thrun` says.
-- Beside the promise.
use Rattle.std.specs.Prelude.{◌≡◌, ℕ, List, map}
use Rattle.cpu12_asm.specs.declared.image.Image.{Image}
use Rattle.fuzzy_meaning.specs.declared.block.Block.{Block}
use Rattle.firmware_code.specs.declared.firmware.Firmware.{Firmware}
use Rattle.box_tree.specs.declared.cert.CertKind.{CertKind}
use Rattle.box_tree.specs.Texts.{format_of}
use Rattle.byte_scaling.specs.declared.width.Width.TheVariants.{Byte}
use Rattle.interrupt_plan.specs.declared.Request.{Request}
use Rattle.trace_io.specs.{Traces.input_bytes, declared.sample.Sample.Sample}
use Rattle.handled_runs.specs.{Answering.AnswersHandled, Forms.HandledSeen, Forms.handled_seen}
use Rattle.command_parts.specs.{Firmwares.firmware_in, Handlers.handler_in}
use Rattle.command_parts.specs.Readings.{Gives, Reading, ◌then◌}
use Rattle.command_parts.specs.declared.firmware.{Compiled.Compiled, Form.TheVariants.Alone}
use Rattle.command_parts.specs.declared.handlers.AcceptedHandler.{AcceptedHandler}
use Rattle.run_reports.specs.{Inputs.inputs_reading, Reports.IsReportOf, Reports.Report}
use Rattle.run_reports.specs.declared.files.HandledFiles.{HandledFiles}

-- what is told of the run: an error for each output, in millionths of its range, the bound on instructions, and a row
-- for each sample, with how many steps of the handler the sample's interrupts did
pub record HandledReport : Type 0 where
  pub errors : List ℕ
  pub bound : ℕ
  pub rows : List HandledSeen

-- the same without the handler's steps
abbrev pub without_handler : HandledReport → Report
without_handler r = record { errors = r.errors; bound = r.bound; rows = map (λ row. row.row) r.rows }

-- FCL's firmware that stands alone, HANDLER, CERT, TRACE and PLAN
abbrev pub handled_reading : CertKind → HandledFiles
    → Reading (Compiled × (AcceptedHandler × (List ℕ × (List Sample × List Request))))
handled_reading kind files =
    firmware_in (Alone Byte) files.fcl then λ c.
    handler_in files.handler then λ seen.
    inputs_reading (format_of kind Byte) c.block files.inputs

-- the files are accepted, and give this: an image of HANDLER that is a handler, of at most so many instructions on a
-- path
abbrev pub AcceptsHandled : CertKind → HandledFiles → Block → Firmware → Image → ℕ → List ℕ → List Sample
    → List Request → Type 0
AcceptsHandled kind files block firmware handler instrs errors samples plan =
    Gives (handled_reading kind files) (
      record { block = block; firmware = firmware },
      (record { image = handler; handler = record { instrs = instrs } }, (errors, (samples, plan))),
    )

-- Compile accepts the FCL text, HANDLER gives a handler that is accepted, the checker accepts the certificate, the
-- trace spells samples within their inputs' ranges, and the plan interrupts that write only free bytes. The rows are
-- those of the run of the firmware's image with the handler's bytes and its address in the vector, in which an
-- interrupt runs the handler's code. Without the handler's steps they are the certified run's, so that its answers,
-- errors, counts and frames are as if each interrupt did its listed writes alone; and each interrupt comes to the
-- handler's RTI, after at most as many steps as a path of it has instructions.
pub record HandledRun (kind : CertKind) (flags : ℕ) (files : HandledFiles) (report : HandledReport) : Type 0 where
  pub block : Block
  pub firmware : Firmware
  pub handler : Image
  pub instrs : ℕ
  pub samples : List Sample
  pub plan : List Request
  pub accepts : AcceptsHandled kind files block firmware handler instrs report.errors samples plan
  pub ran : report.rows ≡ handled_seen firmware handler.bytes (map input_bytes samples) plan flags
  pub interrupts : AnswersHandled firmware handler.bytes instrs flags (map input_bytes samples) plan
  pub reported : IsReportOf Byte flags block firmware samples plan (without_handler report)
