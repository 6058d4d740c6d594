-- The command `gen NUMBER`.
-- Beside the promise.
use Rattle.std.specs.Prelude.{◌≡◌, ℕ, List, [], ◌∷◌, ◌++◌, length, sum, sum_by, codes, Option, option_map}
use Rattle.std.specs.Prelude.{Result}
use Rattle.fuzzy_meaning.specs.declared.block.Block.{Block}
use Rattle.byte_scaling.specs.{Widths.parts, declared.width.Width.TheVariants.Byte}
use Rattle.firmware_code.specs.declared.firmware.Firmware.{Firmware}
use Rattle.box_tree.specs.{Texts.format_of, declared.cert.Cert.Cert, declared.cert.CertKind.TheVariants.Named}
use Rattle.error_certifier.specs.{Halving.IsHalvingFor, Targets.targets_of, declared.targets.Targets.Targets}
use Rattle.error_certifier.specs.declared.targets.Targets.TheVariants.{All}
use Rattle.interrupt_plan.specs.declared.Request.{Request}
use Rattle.trace_io.specs.declared.sample.Sample.{Sample}
use Rattle.run_law.specs.Forms.{RowSeen}
use Rattle.workload.specs.{Blocks.drawn_block, Draws.draw, Workloads.IsWorkload}
use Rattle.fz_status.specs.{Words.Text, Words.word_at}
use Rattle.fz_status.specs.declared.status.Status.{Status}
use Rattle.run_reports.specs.Reports.{IsReportOf, Report}
use Rattle.command_parts.specs.{Certs.halving_in, Firmwares.GivesFirmware, Lines.line}
use Rattle.command_parts.specs.Readings.{GivesSome, IsSettled, Reading, last, made_of}
use Rattle.command_parts.specs.{Words.number_up_to}
use Rattle.command_parts.specs.{declared.firmware.Form.TheVariants.Alone}
use Rattle.command_parts.specs.SeenOutputs.{SeenOutput, only_lines}
use Rattle.command_parts.specs.Lines.{error_lines}
use Rattle.run_commands.specs.declared.generate.Generate.{Generate}

abbrev pub generate_with : ℕ → Generate
generate_with number = record { number = number }

-- the command of the words, where NUMBER is one of 32 bits
abbrev pub generate_in : List Text → Option Generate
generate_in words = option_map generate_with (number_up_to 4294967295 (word_at words 2))

-- it reads no file
abbrev pub generate_inputs : List ℕ
generate_inputs = []

-- ---- its lines

-- over all rows: how many frames, at how many boundaries REV, REVW and WAV went on, and the sum of the answers
abbrev pub frames_of : List (RowSeen (List ℕ)) → ℕ
frames_of rows = sum_by (λ row. length row.frames) rows

abbrev pub resumed_of : List (RowSeen (List ℕ)) → ℕ
resumed_of rows = sum_by (λ row. row.resumed) rows

abbrev pub answers_of : List (RowSeen (List ℕ)) → ℕ
answers_of rows = sum_by (λ row. sum row.answers) rows

-- the number, the error of each output, the bound on instructions, how many samples, and the sums over all rows
abbrev pub generate_lines : ℕ → List ℕ → ℕ → List (RowSeen (List ℕ)) → List (List ℕ)
generate_lines number errors bound rows =
    line (codes "gen ") number ∷ (error_lines (codes "error ") errors
    ++ line (codes "instructions ") bound ∷ line (codes "samples ") (length rows)
    ∷ line (codes "frames ") (frames_of rows) ∷ line (codes "resumed ") (resumed_of rows)
    ∷ line (codes "sum ") (answers_of rows) ∷ [])

-- ---- what it makes of the number

-- the error that the certificate is not to pass, in millionths of the output's range
abbrev pub generated_target : Targets
generated_target = All 400000

-- The texts spell what the number draws: a block, samples and interrupts. The block has this firmware, whose answers
-- have a byte, and the certificate is that of its halving, accepted with its claims as errors. The report is of the
-- firmware's run over the samples under the interrupts, with FLAGS 00: as `run` reports it of these texts, of the
-- image's records and of the certificate's text.
pub record GenerateGives (number : ℕ) (output : SeenOutput) : Type 0 where
  pub text : List ℕ
  pub trace : List ℕ
  pub plan : List ℕ
  pub block : Block
  pub samples : List Sample
  pub requests : List Request
  pub workload : IsWorkload number text trace plan block samples requests
  pub firmware : Firmware
  pub gives : GivesFirmware (Alone Byte) text block firmware
  pub cert : Cert
  pub halving : IsHalvingFor Named block (parts Byte) (targets_of block generated_target) cert
  pub report : Report
  pub errors : report.errors ≡ cert.claims
  pub reported : IsReportOf Byte 0 block firmware samples requests report
  pub output_is : output ≡ only_lines (generate_lines number report.errors report.bound report.rows)

-- the certificate of halving the block that the number draws
abbrev pub generate_reading : Generate → Reading Cert
generate_reading generate =
    last (halving_in (format_of Named Byte) generated_target (drawn_block (draw generate.number 0 5)))

abbrev pub GenerateMakes : Generate → Result SeenOutput Status → Type 0
GenerateMakes generate = made_of (generate_reading generate) (GenerateGives generate.number)

-- a number makes at most one output, and then no fault; and one where halving ends with a certificate
abbrev pub GenerateIsSettled : Type 0
GenerateIsSettled = (generate : Generate)
    → IsSettled (GenerateMakes generate) (GivesSome (generate_reading generate))
