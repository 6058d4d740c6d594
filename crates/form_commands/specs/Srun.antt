-- The commands `srun FCL IMAGE CERT TRACE PLAN UPSETS FLAGS`, and `tsrun ..` under tight certificates.
-- Beside the promise.
use Rattle.std.specs.Prelude.{ℕ, List, [], ◌∷◌, ◌++◌, codes, map, Result}
use Rattle.command_parts.specs.{Contents.content_at, Lines.counted, SeenOutputs.SeenOutput}
use Rattle.command_parts.specs.declared.firmware.Compiled.{Compiled}
use Rattle.fz_status.specs.declared.status.Status.{Status}
use Rattle.interrupt_plan.specs.declared.{Request.Request, upsets.Upset.Upset}
use Rattle.run_reports.specs.RowLines.{begun_lines, labelled_row_lines}
use Rattle.run_reports.specs.WatchedRun.{WatchedReport, WatchedRun, watched_reading}
use Rattle.run_reports.specs.declared.files.WatchedFiles.{WatchedFiles}
use Rattle.trace_io.specs.{Traces.input_bytes, declared.sample.Sample.Sample}
use Rattle.watched_runs.specs.Rows.{FaultSeen, faults_of, upset_rows}
use Rattle.form_commands.specs.Forms.{AreSettled, made_by}
use Rattle.form_commands.specs.declared.form_run.FormRun.{FormRun}

-- FCL, IMAGE, CERT, TRACE, PLAN and UPSETS
abbrev pub srun_inputs : List ℕ
srun_inputs = 2 ∷ 3 ∷ 4 ∷ 5 ∷ 6 ∷ 7 ∷ []

abbrev pub watched_files : List (List ℕ) → WatchedFiles
watched_files contents = record {
  fcl = content_at contents 0;
  image = content_at contents 1;
  inputs = record { cert = content_at contents 2; trace = content_at contents 3; plan = content_at contents 4 };
  upsets = content_at contents 5;
}

-- ---- its lines

-- the lines of the k-th sample, as `run` has them, with FAULT at the end of the first
abbrev pub watched_row_lines : ℕ → FaultSeen → List (List ℕ)
watched_row_lines k r = labelled_row_lines (codes " fault ") k r.row r.fault

-- the errors, the bound on instructions, and each sample
abbrev pub srun_lines : WatchedReport → List (List ℕ)
srun_lines r = begun_lines r.errors r.bound ++ counted watched_row_lines 1 r.rows

-- ---- what it makes of its files

-- the report of the run of what the files give
abbrev pub watched_report : ℕ → Compiled → List ℕ → List Sample → List Request → List Upset → WatchedReport
watched_report flags c errors samples plan upsets = record {
  errors = errors;
  bound = c.firmware.instr_bound;
  rows = faults_of c.firmware (upset_rows c.firmware (map input_bytes samples) plan upsets flags);
}

abbrev pub SrunMakes : FormRun → WatchedFiles → Result SeenOutput Status → Type 0
SrunMakes = made_by watched_reading WatchedRun srun_lines

abbrev pub SrunIsSettled : Type 0
SrunIsSettled = AreSettled watched_reading WatchedRun srun_lines
    (λ flags b. watched_report flags b.0 b.1.1.0 b.1.1.1.0 b.1.1.1.1.0 b.1.1.1.1.1)
