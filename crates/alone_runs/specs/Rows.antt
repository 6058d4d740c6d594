-- The rows of a firmware that stands alone, over a list of samples under a plan.
-- Beside the promise.
use Rattle.std.specs.Prelude.{ℕ, ◌-◌, List, [], map, slice_index_or}
use Rattle.cpu12_parts.specs.State.{State}
use Rattle.run_law.specs.Forms.{RowSeen, Rows, rows_from}
use Rattle.interrupt_plan.specs.declared.Request.{Request}
use Rattle.trace_io.specs.declared.sample.Sample.{Sample}
use Rattle.firmware_code.specs.declared.firmware.Firmware.{Firmware}
use Rattle.run_forms.specs.declared.sample.Notes.{Notes}
use Rattle.run_forms.specs.{Rooms.seen_notes, Forms.Harness, Rows.of_sample, Rows.frames_seen, Rows.arrived_at}
use Rattle.alone_runs.specs.declared.rows.Row as declared
use Rattle.alone_runs.specs.Forms.{place_of, listed_writes, with_writes}
use Rattle.trace_io.specs.Traces.{input_bytes}

abbrev pub requests_of : ℕ → List Request → List Request
requests_of k plan = of_sample place_of k plan

-- a row of the code, as it is seen
abbrev pub row_seen : declared.Row → RowSeen (List ℕ)
row_seen r = record {
  sample = r.bytes.items;
  answers = r.answers.items;
  instrs = r.instrs;
  steps = r.steps;
  resumed = r.resumed;
  frames = frames_seen r.frames;
}

-- the state in which a firmware waits for its first sample
abbrev pub first_state : Firmware → ℕ → State
first_state f flags = arrived_at flags f.memory_map.wait f.step_bound f.image.bytes

-- the input bytes of sample k, counted from 1
abbrev pub bytes_of : List (List ℕ) → ℕ → List ℕ
bytes_of samples k = slice_index_or samples (k - 1) []

-- the run of a firmware over a list of samples, each given by its input bytes, under a plan
abbrev pub firmware_rows : Firmware → List (List ℕ) → List Request → ℕ → Rows (List ℕ) Request (Unit {0})
firmware_rows f samples plan flags =
    rows_from (with_writes flags f) f.step_bound (λ k. requests_of k plan) 1 samples (first_state f flags)

-- a firmware that stands alone, with samples and requests that list writes: nothing is told of these
abbrev pub writes_harness : Firmware → List Sample
    → Harness Request (Notes (Unit {0})) declared.Row (List ℕ) (Unit {0}) (RowSeen (List ℕ))
writes_harness f samples = record {
  samples = map input_bytes samples;
  parts = listed_writes f;
  notes = seen_notes (λ u. u);
  shows = λ row told. row;
  seen = row_seen;
}
