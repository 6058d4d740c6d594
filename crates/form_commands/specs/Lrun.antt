-- The commands `lrun SLOW FAST IMAGE SCERT FCERT STRACE FTRACE LEVELS FLAGS`,
-- and `tlrun ..` under tight certificates.
-- Beside the promise.
use Rattle.std.specs.Prelude.{ℕ, ◌-◌, List, [], ◌∷◌, ◌++◌, codes, decimal, Option, Some, None, map, Result}
use Rattle.std.specs.List.{slice_index_or}
use Rattle.command_parts.specs.{Contents.content_at, SeenOutputs.SeenOutput}
use Rattle.command_parts.specs.Lines.{counted, error_lines, line}
use Rattle.command_parts.specs.declared.twos.CompiledTwoLevel.{CompiledTwoLevel}
use Rattle.cpu12_emul.specs.Take.{FrameSeen}
use Rattle.fz_shelf.specs.Parts.{ended}
use Rattle.fz_status.specs.declared.status.Status.{Status}
use Rattle.interrupt_plan.specs.declared.levels.Level.{Level}
use Rattle.run_reports.specs.TwoLevelRun.{TwoLevelReport, TwoLevelRun, two_level_reading}
use Rattle.run_reports.specs.RowLines.{answers_told, frame_line, frame_told, sample_told}
use Rattle.run_reports.specs.declared.files.TwoLevelFiles.{TwoLevelFiles}
use Rattle.trace_io.specs.{Traces.input_bytes, declared.sample.Sample.Sample}
use Rattle.two_level_code.specs.Images.{fast_most}
use Rattle.two_level_runs.specs.{Rows.TwoLevelSeen, Rows.two_level_seen, Runs.FastSeen}
use Rattle.form_commands.specs.Forms.{AreSettled, made_by}
use Rattle.form_commands.specs.declared.form_run.FormRun.{FormRun}

-- SLOW, FAST, IMAGE, SCERT, FCERT, STRACE, FTRACE and LEVELS
abbrev pub lrun_inputs : List ℕ
lrun_inputs = 2 ∷ 3 ∷ 4 ∷ 5 ∷ 6 ∷ 7 ∷ 8 ∷ 9 ∷ []

abbrev pub two_level_files : List (List ℕ) → TwoLevelFiles
two_level_files contents = record {
  slow = content_at contents 0;
  fast = content_at contents 1;
  image = content_at contents 2;
  slow_cert = content_at contents 3;
  fast_cert = content_at contents 4;
  slow_trace = content_at contents 5;
  fast_trace = content_at contents 6;
  levels = content_at contents 7;
}

-- ---- its lines

-- the line of a fast run: the number of its sample, and what `run` tells of a sample from its answers to the resumed
-- boundaries
abbrev pub fast_line : FastSeen → List ℕ
fast_line f = ended (codes "fast " ++ (decimal f.number ++ (answers_told f.answers f.instrs
    ++ (codes " steps " ++ (decimal f.steps ++ (codes " resumed " ++ decimal f.resumed))))))

-- the line of a frame in it, as `run` has it without a sample
abbrev pub inner_line : ℕ × FrameSeen → List ℕ
inner_line f = ended (codes "inner " ++ frame_told f)

-- a fast run with its frames, if there is one
abbrev pub fast_lines : Option FastSeen → List (List ℕ)
fast_lines None = []
fast_lines (Some f) = fast_line f ∷ map inner_line f.frames

-- the n-th frame of the k-th sample, as `run` has it, and the fast run in its interrupt
abbrev pub outer_lines : ℕ → List (Option FastSeen) → ℕ → ℕ × FrameSeen → List (List ℕ)
outer_lines k fast n f = frame_line k f ∷ fast_lines (slice_index_or fast (n - 1) None)

-- the lines of the k-th sample
abbrev pub two_level_row_lines : ℕ → TwoLevelSeen → List (List ℕ)
two_level_row_lines k r = ended (sample_told k r.row) ∷ counted (outer_lines k r.fast) 1 r.row.frames

-- the errors and the bounds on instructions, of the slow block before the fast one
abbrev pub two_level_begun_lines : List ℕ → List ℕ → ℕ → ℕ → List (List ℕ)
two_level_begun_lines errors fast_errors bound fast_bound =
    error_lines (codes "error ") errors ++ (error_lines (codes "fast error ") fast_errors
    ++ line (codes "instructions ") bound ∷ line (codes "fast instructions ") fast_bound ∷ [])

-- and then each slow sample
abbrev pub lrun_lines : TwoLevelReport → List (List ℕ)
lrun_lines r = two_level_begun_lines r.errors r.fast_errors r.bound r.fast_bound ++ counted two_level_row_lines 1 r.rows

abbrev pub two_level_report : List ℕ → List ℕ → ℕ → ℕ → List TwoLevelSeen → TwoLevelReport
two_level_report errors fast_errors bound fast_bound rows =
    record { errors = errors; fast_errors = fast_errors; bound = bound; fast_bound = fast_bound; rows = rows }

-- ---- what it makes of its files

-- the report of the run of what the files give
abbrev pub two_level_run : ℕ → CompiledTwoLevel → List ℕ → List ℕ → List Sample → List Sample → List Level
    → TwoLevelReport
two_level_run flags c errors fast_errors samples fast_samples levels =
    two_level_report errors fast_errors c.two.firmware.instr_bound (fast_most c.two.fast.instr_bound)
    (two_level_seen c.two (map input_bytes samples) (map input_bytes fast_samples) levels flags)

abbrev pub LrunMakes : FormRun → TwoLevelFiles → Result SeenOutput Status → Type 0
LrunMakes = made_by two_level_reading TwoLevelRun lrun_lines

abbrev pub LrunIsSettled : Type 0
LrunIsSettled = AreSettled two_level_reading TwoLevelRun lrun_lines
    (λ flags b. two_level_run flags b.0 b.1.1.0 b.1.1.1.0 b.1.1.1.1.0 b.1.1.1.1.1.0 b.1.1.1.1.1.1)
