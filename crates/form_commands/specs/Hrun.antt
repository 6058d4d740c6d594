-- The commands `hrun FCL HANDLER CERT TRACE PLAN FLAGS`, and `thrun ..` under tight certificates.
-- Beside the promise.
use Rattle.std.specs.Prelude.{ℕ, List, [], ◌∷◌, ◌++◌, codes, map, Result}
use Rattle.command_parts.specs.{Contents.content_at, Lines.counted, SeenOutputs.SeenOutput}
use Rattle.command_parts.specs.declared.{firmware.Compiled.Compiled, handlers.AcceptedHandler.AcceptedHandler}
use Rattle.fz_status.specs.declared.status.Status.{Status}
use Rattle.handled_runs.specs.Forms.{HandledSeen, handled_seen}
use Rattle.interrupt_plan.specs.declared.Request.{Request}
use Rattle.run_reports.specs.{RowLines.begun_lines, RowLines.labelled_row_lines}
use Rattle.run_reports.specs.HandledRun.{HandledReport, HandledRun, handled_reading}
use Rattle.run_reports.specs.declared.files.HandledFiles.{HandledFiles}
use Rattle.trace_io.specs.{Traces.input_bytes, declared.sample.Sample.Sample}
use Rattle.form_commands.specs.Forms.{AreSettled, made_by}
use Rattle.form_commands.specs.declared.form_run.FormRun.{FormRun}

-- FCL, HANDLER, CERT, TRACE and PLAN
abbrev pub hrun_inputs : List ℕ
hrun_inputs = 2 ∷ 3 ∷ 4 ∷ 5 ∷ 6 ∷ []

abbrev pub handled_files : List (List ℕ) → HandledFiles
handled_files contents = record {
  fcl = content_at contents 0;
  handler = content_at contents 1;
  inputs = record { cert = content_at contents 2; trace = content_at contents 3; plan = content_at contents 4 };
}

-- ---- its lines

-- the lines of the k-th sample, as `run` has them, with the steps of the handler at the end of the first
abbrev pub handled_row_lines : ℕ → HandledSeen → List (List ℕ)
handled_row_lines k r = labelled_row_lines (codes " handler ") k r.row r.handler

-- the errors, the bound on instructions, and each sample
abbrev pub hrun_lines : HandledReport → List (List ℕ)
hrun_lines r = begun_lines r.errors r.bound ++ counted handled_row_lines 1 r.rows

-- ---- what it makes of its files

-- the report of the run of what the files give
abbrev pub handled_report : ℕ → Compiled → AcceptedHandler → List ℕ → List Sample → List Request → HandledReport
handled_report flags c handler errors samples plan = record {
  errors = errors;
  bound = c.firmware.instr_bound;
  rows = handled_seen c.firmware handler.image.bytes (map input_bytes samples) plan flags;
}

abbrev pub HrunMakes : FormRun → HandledFiles → Result SeenOutput Status → Type 0
HrunMakes = made_by handled_reading HandledRun hrun_lines

abbrev pub HrunIsSettled : Type 0
HrunIsSettled = AreSettled handled_reading HandledRun hrun_lines
    (λ flags b. handled_report flags b.0 b.1.0 b.1.1.0 b.1.1.1.0 b.1.1.1.1)
