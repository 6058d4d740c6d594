-- What was counted of a run, and what is left of it.
-- Beside the promise.
use Rattle.std.specs.Prelude.{ℕ, ◌+◌, List, ◌++◌}
use Rattle.cpu12_emul.specs.Take.{FrameSeen}
use Rattle.run_forms.specs.declared.{sample.Counts.Counts, sample.Notes.Notes}
use Rattle.run_forms.specs.{Forms.SeenNotes, Rooms.seen_notes, Rows.frames_seen}
use Rattle.mailbox_runs.specs.Runs.{AnswerSeen, RunSeen}

-- what is seen of notes: nothing is told
abbrev pub notes_of : SeenNotes (Notes (Unit {0})) (Unit {0})
notes_of = seen_notes (λ u. u)

-- the answers, frames and resumed boundaries that were counted
pub record Counted : Type 0 where
  pub answers : List AnswerSeen
  pub frames : List (ℕ × FrameSeen)
  pub resumed : ℕ

abbrev pub counted_at : List AnswerSeen → Counts (Notes (Unit {0})) → Counted
counted_at answers t = record { answers = answers; frames = frames_seen t.notes.frames.items; resumed = t.resumed }

-- with those of the rest of the run
abbrev pub with_rest : List AnswerSeen → Counts (Notes (Unit {0})) → RunSeen → Counted
with_rest answers t run = record {
  answers = answers ++ run.answers;
  frames = frames_seen t.notes.frames.items ++ run.frames;
  resumed = t.resumed + run.resumed;
}
