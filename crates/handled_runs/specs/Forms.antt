-- A firmware that stands alone, whose interrupts run code, as a form of the law on runs.
-- Beside the promise.
use Rattle.std.specs.Prelude.{ℕ, List, map, sum}
use Rattle.cpu12_parts.specs.State.{State}
use Rattle.run_law.specs.Forms.{Form, RowSeen, Rows, rows_from}
use Rattle.handler_check.specs.Running.{Returned, until_rti, step_limit, at_code}
use Rattle.interrupt_plan.specs.declared.Request.{Request}
use Rattle.firmware_code.specs.declared.firmware.Firmware.{Firmware}
use Rattle.trace_io.specs.{declared.sample.Sample.Sample, Traces.input_bytes}
use Rattle.run_forms.specs.{declared.sample.Notes.Notes, Rooms.seen_notes, Rows.arrived_at, Rows.shown}
use Rattle.run_forms.specs.Forms.{FormParts, plan_form, Harness}
use Rattle.alone_runs.specs.{Forms.place_of, Forms.stand_alone, Rows.requests_of}
use Rattle.alone_runs.specs.Rows as rows
use Rattle.handled_runs.specs.declared.back.HandlerEnd.{HandlerEnd}
use Rattle.handled_runs.specs.declared.rows.HandledRow as declared
use Rattle.handled_runs.specs.Joint.{joint_bytes}

-- A request's handler, from a state in which no sums run: the nine bytes are pushed, I is set, the request's writes are
-- done, and steps from the vector on up to the first of an RTI, or up to the limit, which is one for all handlers.
abbrev pub served : ℕ → Request → State → Returned
served flags r v = until_rti flags step_limit (at_code r.writes v)

-- what is told of it: its steps, and whether the RTI was done
abbrev pub end_of : Returned → HandlerEnd
end_of r = record { steps = r.steps; done = r.done }

-- The parts of the form: a request tells how its handler ended.
abbrev pub code_parts : Firmware → FormParts (List ℕ) Request HandlerEnd
code_parts f = stand_alone f place_of (λ flags r v. (served flags r v).state) (λ flags r v. end_of (served flags r v))

abbrev pub with_code : ℕ → Firmware → Form (List ℕ) Request HandlerEnd
with_code flags f = plan_form flags (code_parts f)

-- the state in which the firmware waits for its first sample, where the handler's bytes stand beside it
abbrev pub first_handled : Firmware → List (ℕ × ℕ) → ℕ → State
first_handled f handler flags =
    arrived_at flags f.memory_map.wait f.step_bound (joint_bytes f.image.bytes handler)

-- the run over a list of samples under a plan
abbrev pub handled_rows : Firmware → List (ℕ × ℕ) → List (List ℕ) → List Request → ℕ
    → Rows (List ℕ) Request HandlerEnd
handled_rows f handler samples plan flags =
    rows_from (with_code flags f) f.step_bound (λ k. requests_of k plan) 1 samples (first_handled f handler flags)

-- a row, and how many steps of the handler the interrupts of its sample did
pub record HandledSeen : Type 0 where
  pub row : RowSeen (List ℕ)
  pub handler : ℕ

-- the steps of handlers that ended so
abbrev pub steps_of : List HandlerEnd → ℕ
steps_of ends = sum (map (λ e. e.steps) ends)

abbrev pub with_steps : RowSeen (List ℕ) → List HandlerEnd → HandledSeen
with_steps row ends = record { row = row; handler = steps_of ends }

-- the rows of the run so
abbrev pub handled_seen : Firmware → List (ℕ × ℕ) → List (List ℕ) → List Request → ℕ → List HandledSeen
handled_seen f handler samples plan flags = shown with_steps (handled_rows f handler samples plan flags)

-- those of the code
abbrev pub row_seen : declared.HandledRow → HandledSeen
row_seen r = record { row = rows.row_seen r.row; handler = r.handler }

abbrev pub code_harness : Firmware → List Sample
    → Harness Request (Notes HandlerEnd) declared.HandledRow (List ℕ) HandlerEnd HandledSeen
code_harness f samples = record {
  samples = map input_bytes samples;
  parts = code_parts f;
  notes = seen_notes (λ end. end);
  shows = with_steps;
  seen = row_seen;
}
