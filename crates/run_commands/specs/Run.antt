-- The commands `run FCL IMAGE CERT TRACE PLAN FLAGS`, `run16 ..` with answers of 16 bits, and `trun ..` and `trun16 ..`
-- under tight certificates.
-- Beside the promise.
use Rattle.std.specs.Prelude.{◌≡◌, ◌<◌, ◌^◌, ℕ, List, [], ◌∷◌, map, Option, option_map, Result}
use Rattle.fuzzy_meaning.specs.declared.block.Block.{Block}
use Rattle.firmware_code.specs.declared.firmware.Firmware.{Firmware}
use Rattle.alone_runs.specs.Rows.{firmware_rows}
use Rattle.box_tree.specs.declared.cert.CertFormat.{CertFormat}
use Rattle.interrupt_plan.specs.declared.Request.{Request}
use Rattle.trace_io.specs.{Traces.input_bytes, declared.sample.Sample.Sample}
use Rattle.command_parts.specs.{Contents.content_at, SeenOutputs.SeenOutput, SeenOutputs.only_lines}
use Rattle.command_parts.specs.{Readings.made_of, declared.firmware.Compiled.Compiled}
use Rattle.fz_status.specs.{Words.flags_of, declared.status.Status.Status}
use Rattle.fz_status.specs.{Words.Text, Words.word_at}
use Rattle.run_reports.specs.{Reports.Report, Reports.left_of, Reports.report_of, Settled.IsSettledRun}
use Rattle.run_reports.specs.CertifiedRun.{AcceptsRun, CertifiedRun, run_reading}
use Rattle.run_reports.specs.declared.files.RunFiles.{RunFiles}
use Rattle.run_commands.specs.declared.run.Run.{Run}
use Rattle.run_reports.specs.RowLines.{run_lines}

abbrev pub run_with : CertFormat → ℕ → Run
run_with format flags = record { format = format; flags = flags }

-- the command of the words, where the last is of the form of FLAGS
abbrev pub run_in : CertFormat → List Text → Option Run
run_in format words = option_map (run_with format) (flags_of (word_at words 7))

-- FCL, IMAGE, CERT, TRACE and PLAN
abbrev pub run_inputs : List ℕ
run_inputs = 2 ∷ 3 ∷ 4 ∷ 5 ∷ 6 ∷ []

abbrev pub files_in : List (List ℕ) → RunFiles
files_in contents = record {
  fcl = content_at contents 0;
  image = content_at contents 1;
  inputs = record { cert = content_at contents 2; trace = content_at contents 3; plan = content_at contents 4 };
}

-- ---- what it makes of its files

-- the run is certified, and the lines are those of its report and of what it leaves
pub record RunGives (run : Run) (files : RunFiles) (output : SeenOutput) : Type 0 where
  pub report : Report
  pub certified : CertifiedRun run.format run.flags files report
  pub output_is : output ≡ only_lines (run_lines report certified.left)

abbrev pub RunMakes : Run → RunFiles → Result SeenOutput Status → Type 0
RunMakes run files = made_of (run_reading run.format files) (RunGives run files)

-- files that are accepted make an output, with the errors that the certificate is accepted with
abbrev pub AcceptedRunsMakeOutput : Type 0
AcceptedRunsMakeOutput = (run : Run) (files : RunFiles) (block : Block) (firmware : Firmware) (errors : List ℕ)
    (samples : List Sample) (plan : List Request) → run.flags < 2 ^ 8
    → AcceptsRun run.format files block firmware errors samples plan
    → (output : SeenOutput) × (gives : RunGives run files output) × (gives.report.errors ≡ errors)

-- the lines of the run of what the files give
abbrev pub run_told : ℕ → Compiled → List ℕ → List Sample → List Request → List (List ℕ)
run_told flags c errors samples plan =
    let all = firmware_rows c.firmware (map input_bytes samples) plan flags in
    run_lines (report_of errors c.firmware.instr_bound all.rows) (left_of all.state.mem)

abbrev pub RunIsSettled : Type 0
RunIsSettled = (run : Run) (files : RunFiles)
    → IsSettledRun (run_reading run.format files) run.flags (RunGives run files)
    (λ b. run_told run.flags b.0 b.1.1.0 b.1.1.1.0 b.1.1.1.1)
