-- What a form of firmware is, as a form of the law on runs, and what a run in Rust is of.
-- Beside the promise.
use Rattle.std.specs.Prelude.{ℕ, Bool, List}
use Rattle.cpu12_parts.specs.State.{State}
use Rattle.cpu12_emul.specs.Take.{FrameSeen}
use Rattle.run_law.specs.Forms.{Form, RowSeen}

-- What a form of firmware is, whatever the open flags are: how a sample is given, and taken away again at its end; when
-- it ends, by the moment and the state; what it answers there; the place of a request, which is its sample, counted
-- from 1, and its moment; and, by the byte from which open flags are taken, what a request's handler does to a state in
-- which no sums run, from the push of the frame up to the return, and what it tells.
pub record FormParts (S A B : Type 0) : Type 0 where
  pub give : S → State → State
  pub leave : S → State → State
  pub ends : ℕ → State → Bool
  pub answers : State → List ℕ
  pub place : A → ℕ × ℕ
  pub handle : ℕ → A → State → State
  pub tells : ℕ → A → State → B

-- a request's sample, and its moment
abbrev pub sample_in : {A : Type 0} → (A → ℕ × ℕ) → A → ℕ
sample_in place r = (let at = place r in at.0)

abbrev pub moment_in : {A : Type 0} → (A → ℕ × ℕ) → A → ℕ
moment_in place r = (let at = place r in at.1)

-- the form of these parts, where a request is due from its moment on
abbrev pub plan_form : {S A B : Type 0} → ℕ → FormParts S A B → Form S A B
plan_form flags parts = record {
  flags = flags;
  give = parts.give;
  leave = parts.leave;
  ends = parts.ends;
  answers = parts.answers;
  moment = moment_in parts.place;
  handle = parts.handle flags;
  tells = parts.tells flags;
}

-- What is seen of the notes U of a sample's interrupts: the frames with their boundaries, and what was told.
pub record SeenNotes (U B : Type 0) : Type 0 where
  pub frames : U → List (ℕ × FrameSeen)
  pub told : U → List B

-- What a run in Rust is of, whose requests are of type A, which takes notes of type U and whose rows are of type R: the
-- samples; the form's parts; what is seen of notes; what a row is to show of the run of its sample and of what all its
-- handlers told; and what a row shows.
pub record Harness (A U R S B T : Type 0) : Type 0 where
  pub samples : List S
  pub parts : FormParts S A B
  pub notes : SeenNotes U B
  pub shows : RowSeen S → List B → T
  pub seen : R → T
