-- Room in vectors for what the requests of a sample push and tell.
-- Beside the promise.
use Rattle.std.specs.Prelude.{◌≤◌, ℕ, ◌+◌, map, vec_len, vec_capacity}
use Rattle.run_forms.specs.{declared.sample.Notes.Notes, Forms.SeenNotes, Rows.frames_seen}

-- there is room for n requests more, and with these no more is told than a plan has requests
pub record Fits {U : Type 0} (notes : Notes U) (n : ℕ) : Type 0 where
  pub frames : vec_len notes.frames + n ≤ vec_capacity notes.frames
  pub told : vec_len notes.told + n ≤ vec_capacity notes.told
  pub few : vec_len notes.told + n ≤ 10000

-- what is seen of such notes, where this is seen of a telling
abbrev pub seen_notes : {U B : Type 0} → (U → B) → SeenNotes (Notes U) B
seen_notes seen = record {
  frames = λ notes. frames_seen notes.frames.items;
  told = λ notes. map seen notes.told.items;
}
