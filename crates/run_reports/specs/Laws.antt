-- What is so of every run and of every run's files.
-- Beside the promise.
use Rattle.std.specs.Prelude.{ℕ, ◌≤◌, List, All, length, map}
use Rattle.fuzzy_meaning.specs.declared.{block.Block.Block, block.Input.Input}
use Rattle.box_tree.specs.declared.cert.Cert.{Cert}
use Rattle.cert_check.specs.Acceptance.{IsAccepted}
use Rattle.eval_code.specs.Firing.{AreInputBytes}
use Rattle.byte_scaling.specs.{Widths.parts, declared.width.Width.Width}
use Rattle.firmware_code.specs.{Uninterrupted.Answer, Uninterrupted.AreAnswersOf, declared.firmware.Firmware.Firmware}
use Rattle.interrupt_plan.specs.declared.Request.{Request}
use Rattle.trace_io.specs.{Traces.Spells as SpellsTrace, declared.sample.Sample.Sample}
use Rattle.run_law.specs.Forms.{RowSeen}
use Rattle.alone_runs.specs.Answering.{AnswersItsBlock}
use Rattle.trace_io.specs.Traces.{input_bytes}
use Rattle.command_parts.specs.{Firmwares.GivesFirmware, declared.firmware.Form.TheVariants.Alone}
use Rattle.run_reports.specs.{Reports.IsReportOf, Reports.report_of}

-- a trace spells at most 10000 samples
abbrev pub SpelledTracesAreShort : Type 0
SpelledTracesAreShort = (inputs : List Input) (trace : List ℕ) (samples : List Sample)
    → SpellsTrace inputs trace samples → length samples ≤ 10000

-- the bytes of the samples of a trace are input bytes of the block
abbrev pub SpelledBytesFit : Type 0
SpelledBytesFit = (block : Block) (trace : List ℕ) (samples : List Sample)
    → SpellsTrace block.inputs trace samples → All (AreInputBytes block) (map input_bytes samples)

-- a block's answers take no more instructions than its bound
abbrev pub AnswersKeepTheBound : Type 0
AnswersKeepTheBound = (width : Width) (block : Block) (most : ℕ) (before : ℕ → ℕ) (samples : List (List ℕ))
    (answers : List Answer)
    → AreAnswersOf width block most before samples answers → All (λ a. a.instructions ≤ most) answers

-- what the firmware of a text answers of the samples of a trace is its report, with the errors of each certificate that
-- is accepted for the text's block
abbrev pub AnswersAreReported : Type 0
AnswersAreReported = (width : Width) (flags : ℕ) (text : List ℕ) (block : Block) (firmware : Firmware) (cert : Cert)
    (errors trace : List ℕ) (samples : List Sample) (plan : List Request) (rows : List (RowSeen (List ℕ)))
    → GivesFirmware (Alone width) text block firmware → IsAccepted block (parts width) cert errors
    → SpellsTrace block.inputs trace samples
    → AnswersItsBlock firmware flags (map input_bytes samples) plan rows
    → IsReportOf width flags block firmware samples plan (report_of errors firmware.instr_bound rows)
