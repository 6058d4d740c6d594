-- The run of two blocks at two levels: what the program's answer to `lrun` and `tlrun` says.
-- Beside the promise.
use Rattle.std.specs.Prelude.{◌≡◌, ℕ, ◌≤◌, List, All, map}
use Rattle.fuzzy_meaning.specs.declared.block.Block.{Block}
use Rattle.eval_code.specs.Bounds.{instruction_bound}
use Rattle.byte_scaling.specs.declared.width.Width.TheVariants.{Byte}
use Rattle.box_tree.specs.Texts.{format_of}
use Rattle.box_tree.specs.declared.cert.CertKind.{CertKind}
use Rattle.trace_io.specs.declared.sample.Sample.{Sample}
use Rattle.interrupt_plan.specs.{Levels.LevelsHaveFault, Levels.SpellsLevels, declared.levels.Level.Level}
use Rattle.trace_io.specs.Traces.{input_bytes}
use Rattle.two_level_code.specs.{Images.fast_most, Images.slow_alone, declared.two.Two.Two}
use Rattle.two_level_runs.specs.Answering.{AnswersAtTwoLevels, answer_of_fast, fast_runs, plan_of}
use Rattle.two_level_runs.specs.Rows.{TwoLevelSeen, two_level_seen}
use Rattle.run_reports.specs.{Posted.ArePostedWithinErrors, Reports.IsReportOf, Reports.Report}
use Rattle.command_parts.specs.{Certs.cert_in, Images.image_in, Twos.twos_in}
use Rattle.command_parts.specs.declared.twos.CompiledTwoLevel.{CompiledTwoLevel}
use Rattle.command_parts.specs.Readings.{Gives, Reading, Stage, for_fast, last, ◌then◌}
use Rattle.run_reports.specs.Inputs.{rows_in, trace_in}
use Rattle.run_reports.specs.declared.files.TwoLevelFiles.{TwoLevelFiles}

-- what is told of a run: an error for each output of the slow block and of the fast one, in millionths of its range,
-- the bounds on instructions of the slow code and of the fast, and a row for each slow sample, with what the levels
-- that were taken in it told of their fast runs
pub record TwoLevelReport : Type 0 where
  pub errors : List ℕ
  pub fast_errors : List ℕ
  pub bound : ℕ
  pub fast_bound : ℕ
  pub rows : List TwoLevelSeen

-- the same of the slow block alone
abbrev pub slow_report : TwoLevelReport → Report
slow_report r = record { errors = r.errors; bound = r.bound; rows = map (λ row. row.row) r.rows }

-- the fast samples that are answered, by their numbers
abbrev pub fast_numbers : List TwoLevelSeen → List ℕ
fast_numbers rows = map (λ f. f.number) (fast_runs rows)

-- the levels over so many fast samples
abbrev pub levels_in : ℕ → List ℕ → Stage (List Level)
levels_in fast text = rows_in (SpellsLevels fast text) (LevelsHaveFault fast text)

-- IMAGE of a firmware of both, SCERT and FCERT, STRACE and FTRACE, and LEVELS over the fast samples
abbrev pub two_level_inputs : CertKind → TwoLevelFiles → CompiledTwoLevel
    → Reading (Unit {0} × (List ℕ × (List ℕ × (List Sample × (List Sample × List Level)))))
two_level_inputs kind files c =
    image_in files.image c.two.firmware.image then λ held.
    cert_in (format_of kind Byte) c.slow files.slow_cert then λ errors.
    for_fast (cert_in (format_of kind Byte) c.fast files.fast_cert) then λ fast_errors.
    trace_in c.slow files.slow_trace then λ seen.
    for_fast (trace_in c.fast files.fast_trace) then λ (fast_samples, fast_bytes).
    last (levels_in fast_samples files.levels)

-- they are accepted, and give this
abbrev pub AcceptsTwoLevelInputs : CertKind → TwoLevelFiles → CompiledTwoLevel → List ℕ → List ℕ → List Sample
    → List Sample → List Level → Type 0
AcceptsTwoLevelInputs kind files c errors fast_errors samples fast_samples levels =
    Gives (two_level_inputs kind files c) (tt, (errors, (fast_errors, (samples, (fast_samples, levels)))))

-- the firmware of SLOW and FAST, and these of it
abbrev pub two_level_reading : CertKind → TwoLevelFiles
    → Reading (CompiledTwoLevel × (Unit {0} × (List ℕ × (List ℕ × (List Sample × (List Sample × List Level))))))
two_level_reading kind files = twos_in files.slow files.fast then λ c. two_level_inputs kind files c

-- all are accepted, and give this
abbrev pub AcceptsTwoLevels : CertKind → TwoLevelFiles → Block → Block → Two → List ℕ → List ℕ → List Sample
    → List Sample → List Level → Type 0
AcceptsTwoLevels kind files slow fast two errors fast_errors samples fast_samples levels =
    Gives (two_level_reading kind files) (
      record { slow = slow; fast = fast; two = two },
      (tt, (errors, (fast_errors, (samples, (fast_samples, levels))))),
    )

-- Compile accepts the texts of both blocks, IMAGE holds exactly the image of both, the checker accepts a certificate
-- for each block, the traces spell samples of each within its inputs' ranges, and LEVELS asks for interrupts that
-- answer fast samples, and for such that come meanwhile. The rows are those of the emulated image. Without the fast
-- runs they are the slow block's certified run under a plan at the same places that writes nothing. Each fast run is of
-- a whole sample: it answers it by the fast block over bytes, in at most the printed number of instructions, and within
-- the printed error of FCL's exact fraction of the fast samples that were answered up to it.
pub record TwoLevelRun (kind : CertKind) (flags : ℕ) (files : TwoLevelFiles) (report : TwoLevelReport) : Type 0 where
  pub slow : Block
  pub fast : Block
  pub two : Two
  pub samples : List Sample
  pub fast_samples : List Sample
  pub levels : List Level
  pub accepts : AcceptsTwoLevels kind files slow fast two report.errors report.fast_errors samples fast_samples levels
  pub ran : report.rows ≡ two_level_seen two (map input_bytes samples) (map input_bytes fast_samples) levels flags
  pub answers : AnswersAtTwoLevels slow fast two flags (map input_bytes samples) (map input_bytes fast_samples) levels
  pub reported : IsReportOf Byte flags slow (slow_alone slow two) samples (plan_of levels) (slow_report report)
  pub fast_bound : report.fast_bound ≡ fast_most (instruction_bound Byte fast)
  pub fast_instructions : All (λ f. f.instrs ≤ report.fast_bound) (fast_runs report.rows)
  pub fast_within : ArePostedWithinErrors 1 fast report.fast_errors fast_samples (fast_numbers report.rows)
      (map answer_of_fast (fast_runs report.rows))
