-- The rows of a form's samples under a plan.
-- Beside the promise.
use Rattle.std.specs.Prelude.{ℕ, zero, suc, ◌==◌, Bool, if◌then◌else◌, Result}
use Rattle.std.specs.Prelude.{Ok, Err, List, [], ◌∷◌, filter, map}
use Rattle.cpu12_parts.specs.State.{State}
use Rattle.cpu12_emul.specs.{declared.ends.Frame.Frame, Image.image_memory, Take.FrameSeen, Take.frame_seen}
use Rattle.cpu12_emul.specs.Step.{Next, next_of, reset_with}
use Rattle.run_law.specs.Forms.{RowSeen, Rows, rows_from}
use Rattle.run_forms.specs.Forms.{Harness, sample_in, plan_form}

-- the requests of sample k
abbrev pub is_of : {A : Type 0} → (A → ℕ × ℕ) → ℕ → A → Bool
is_of place k r = sample_in place r == k

abbrev pub of_sample : {A : Type 0} → (A → ℕ × ℕ) → ℕ → List A → List A
of_sample place k plan = filter (is_of place k) plan

abbrev pub boundary_seen : ℕ × Frame → ℕ × FrameSeen
boundary_seen f = (f.0, frame_seen f.1)

abbrev pub frames_seen : List (ℕ × Frame) → List (ℕ × FrameSeen)
frames_seen fs = map boundary_seen fs

abbrev pub then_arrival : State → (State → State) → Result Next ℕ → State
then_arrival s rest (Ok next) = rest next.state
then_arrival s rest (Err byte) = s

-- steps until PC is at LOOP: at most n, and none where none is defined
unfoldable pub arrival : ℕ → ℕ → ℕ → State → State
arrival flags loop zero s = s
arrival flags loop (suc n) s = if s.regs.pc == loop then s else then_arrival s (arrival flags loop n) (next_of flags s)

-- the state in which an image's code waits for its first sample
abbrev pub arrived_at : ℕ → ℕ → ℕ → List (ℕ × ℕ) → State
arrived_at flags wait most image = arrival flags wait most (reset_with (image_memory image))

-- what requests told, without these
abbrev pub tellings : {A B : Type 0} → List (A × B) → List B
tellings ts = map (λ t. t.1) ts

-- each row with what was told of its sample's requests, as these are shown
abbrev pub shown_rows : {S A B T : Type 0} → (RowSeen S → List B → T) → List (RowSeen S) → List (List (A × B)) → List T
shown_rows shows [] tss = []
shown_rows shows (row ∷ rows) [] = []
shown_rows shows (row ∷ rows) (ts ∷ tss) = shows row (tellings ts) ∷ shown_rows shows rows tss

abbrev pub shown : {S A B T : Type 0} → (RowSeen S → List B → T) → Rows S A B → List T
shown shows all = shown_rows shows all.rows all.told

-- the run of a form over its samples under a plan, from a state, each sample of at most so many steps
abbrev pub harness_rows : {A U R S B T : Type 0} → ℕ → Harness A U R S B T → ℕ → List A → State → Rows S A B
harness_rows flags h most plan s =
    rows_from (plan_form flags h.parts) most (λ k. of_sample h.parts.place k plan) 1 h.samples s
