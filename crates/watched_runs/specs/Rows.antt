-- The rows of a list of samples under a plan and upsets.
-- Beside the promise.
use Rattle.std.specs.Prelude.{ℕ, suc, List, [], ◌∷◌, map, take, slice_index}
use Rattle.cpu12_parts.specs.State.{State}
use Rattle.cpu12_emul.specs.Image.{image_memory}
use Rattle.run_law.specs.{Forms.RowSeen, Forms.Rows, Forms.rows_from, Uninterrupted.uninterrupted}
use Rattle.interrupt_plan.specs.declared.{Request.Request, upsets.Upset.Upset}
use Rattle.firmware_code.specs.declared.firmware.Firmware.{Firmware}
use Rattle.watched_code.specs.{Watched.Watched, Watched.restored, WatchedCode.fault_at}
use Rattle.trace_io.specs.declared.sample.Sample.{Sample}
use Rattle.run_forms.specs.{declared.sample.Notes.Notes, Rooms.seen_notes, Forms.Harness}
use Rattle.alone_runs.specs.Following.{row_of_sample}
use Rattle.alone_runs.specs.Rows as rows
use Rattle.alone_runs.specs.Rows.{requests_of, first_state}
use Rattle.trace_io.specs.Traces.{input_bytes}
use Rattle.watched_runs.specs.Samples.{with_upsets}
use Rattle.watched_runs.specs.declared.form.WatchedRow as declared
use Rattle.watched_runs.specs.Forms.{given_changed, watched_parts, watched_form}

-- a row of a sample's bytes, and what FAULT held at its end
pub record FaultSeen : Type 0 where
  pub row : RowSeen (List ℕ)
  pub fault : ℕ

-- the row of n answers, behind which FAULT was read
abbrev pub fault_seen : ℕ → RowSeen Watched → FaultSeen
fault_seen n r = record {
  row = record {
    sample = r.sample.bytes;
    answers = take n r.answers;
    instrs = r.instrs;
    steps = r.steps;
    resumed = r.resumed;
    frames = r.frames;
  };
  fault = slice_index r.answers n;
}

-- the run of a firmware over a list of samples, each given by its input bytes, under a plan and upsets
abbrev pub upset_rows : Firmware → List (List ℕ) → List Request → List Upset → ℕ
    → Rows Watched Request (Unit {0})
upset_rows f samples plan upsets flags =
    rows_from (watched_form flags f) f.step_bound (λ k. requests_of k plan) 1 (with_upsets upsets samples)
    (first_state f flags)

-- its rows
abbrev pub faults_of : Firmware → Rows Watched Request (Unit {0}) → List FaultSeen
faults_of f all = map (fault_seen f.outputs) all.rows

-- what the row of a sample is to be that is answered in n steps without interrupts: each request is taken at its moment
abbrev pub row_of_watched : ℕ → Firmware → List Request → ℕ → Watched → State → FaultSeen
row_of_watched flags f qs n x s = record {
  row = row_of_sample flags f qs n x.bytes s;
  fault = slice_index (uninterrupted flags n s).mem fault_at;
}

-- the rows of the samples from number k on, which take so many steps
abbrev pub rows_of_watched : ℕ → Firmware → List Request → ℕ → List ℕ → List Watched → State → List FaultSeen
rows_of_watched flags f plan k [] xs s = []
rows_of_watched flags f plan k (n ∷ ns) [] s = []
rows_of_watched flags f plan k (n ∷ ns) (x ∷ rest) s =
    let first = given_changed f.memory_map x s in
    row_of_watched flags f (requests_of k plan) n x first
    ∷ rows_of_watched flags f plan (suc k) ns rest
    (restored (image_memory f.image.bytes) x.change (uninterrupted flags n first))

-- a row of the code, as it is seen
abbrev pub row_seen : declared.WatchedRow → FaultSeen
row_seen r = record { row = rows.row_seen r.row; fault = r.fault }

-- a firmware with a trace and upsets: its handlers tell nothing
abbrev pub watched_harness : Firmware → List Sample → List Upset
    → Harness Request (Notes (Unit {0})) declared.WatchedRow Watched (Unit {0}) FaultSeen
watched_harness f samples upsets = record {
  samples = with_upsets upsets (map input_bytes samples);
  parts = watched_parts f;
  notes = seen_notes (λ u. u);
  shows = λ row told. fault_seen f.outputs row;
  seen = row_seen;
}
