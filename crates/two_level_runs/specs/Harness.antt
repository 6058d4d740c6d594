-- The rows of the code at two levels, and the form of which they are.
-- Beside the promise.
use Rattle.std.specs.Prelude.{ℕ, Option, None, Some, List, map}
use Rattle.interrupt_plan.specs.declared.levels.Level.{Level}
use Rattle.trace_io.specs.declared.sample.Sample.{Sample}
use Rattle.run_forms.specs.{declared.sample.Notes.Notes, Forms.Harness, Rooms.seen_notes}
use Rattle.alone_runs.specs.Rows as plain
use Rattle.trace_io.specs.Traces.{input_bytes}
use Rattle.two_level_code.specs.declared.two.Two.{Two}
use Rattle.two_level_runs.specs.{declared.serve.FastRow.FastRow, declared.rows.TwoRow.TwoRow, Runs.FastSeen}
use Rattle.two_level_runs.specs.{InnerNotes.inner_frames_seen, Rows.TwoLevelSeen, Rows.two_level_parts, Rows.with_fast}

-- a fast run of the code as it is seen, and what an interrupt told
abbrev pub fast_seen : FastRow → FastSeen
fast_seen r = record {
  number = r.number;
  answers = r.answers.items;
  instrs = r.instrs;
  steps = r.steps;
  resumed = r.resumed;
  frames = inner_frames_seen r.frames.items;
}

abbrev pub fast_told : Option FastRow → Option FastSeen
fast_told None = None
fast_told (Some r) = Some (fast_seen r)

-- a row of the code, as it is seen
abbrev pub row_seen : TwoRow → TwoLevelSeen
row_seen r = record { row = plain.row_seen r.row; fast = map fast_told r.fast.items }

-- the form with its samples
abbrev pub two_level_harness : Two → List Sample → List Sample
    → Harness Level (Notes (Option FastRow)) TwoRow (List ℕ) (Option FastSeen) TwoLevelSeen
two_level_harness two slow fast = record {
  samples = map input_bytes slow;
  parts = two_level_parts two (map input_bytes fast);
  notes = seen_notes fast_told;
  shows = with_fast;
  seen = row_seen;
}
