-- What was counted of a run, and what is left of it.
-- Beside the promise.
use Rattle.std.specs.Prelude.{ℕ, ◌+◌, ◌&&◌, nat_le, Bool, false, List, [], ◌∷◌, ◌++◌, drop}
use Rattle.cpu12_parts.specs.State.{State}
use Rattle.cpu12_emul.specs.Take.{FrameSeen, may_interrupt}
use Rattle.run_forms.specs.{declared.sample.Counts.Counts, Forms.SeenNotes, Rows.tellings}
use Rattle.run_law.specs.Forms.{Form, Taking, Ran, run_from, RowSeen}

-- whether the next request is due at boundary m and may be taken
abbrev pub is_due : {A : Type 0} → (A → ℕ) → ℕ → List A → State → Bool
is_due moment m [] s = false
is_due moment m (q ∷ qs) s = may_interrupt s && nat_le (moment q) m

-- what is taken at a boundary, with what was told
pub record TakingSummary (A B : Type 0) : Type 0 where
  pub state : State
  pub frames : List (ℕ × FrameSeen)
  pub told : List B
  pub left : List A

-- frames and tellings before those of a boundary
abbrev pub with_before : {A B : Type 0} → List (ℕ × FrameSeen) → List B → Taking A B → TakingSummary A B
with_before fs told t = record {
  state = t.state;
  frames = fs ++ t.frames;
  told = told ++ tellings t.told;
  left = t.left;
}

-- a run without the states at its boundaries: what was counted, and what all its handlers told
pub record SampleSummary (B : Type 0) : Type 0 where
  pub arrived : Bool
  pub state : State
  pub instrs : ℕ
  pub steps : ℕ
  pub resumed : ℕ
  pub told : List B
  pub frames : List (ℕ × FrameSeen)

abbrev pub summary : {A B : Type 0} → Ran A B → SampleSummary B
summary r = record {
  arrived = r.arrived;
  state = r.state;
  instrs = r.instrs;
  steps = r.steps;
  resumed = r.resumed;
  told = tellings r.told;
  frames = r.frames;
}

-- what was counted before, and the rest
abbrev pub after : {B : Type 0} → ℕ → ℕ → ℕ → List B → List (ℕ × FrameSeen) → SampleSummary B → SampleSummary B
after instrs steps resumed told frames r = record {
  arrived = r.arrived;
  state = r.state;
  instrs = instrs + r.instrs;
  steps = steps + r.steps;
  resumed = resumed + r.resumed;
  told = told ++ r.told;
  frames = frames ++ r.frames;
}

-- the rest of a run, with what was counted before it
abbrev pub rest_of : {S A B : Type 0} → Form S A B → ℕ → ℕ → Bool → List A → State → ℕ → ℕ → ℕ → List B
    → List (ℕ × FrameSeen) → SampleSummary B
rest_of g n m inside qs s instrs steps resumed told frames =
    after instrs steps resumed told frames (summary (run_from g n m inside qs s))

-- the same of counts, where this is seen of their notes
abbrev pub rest_at : {S A U B : Type 0} → SeenNotes U B → Form S A B → ℕ → List A → Counts U → State → SampleSummary B
rest_at seen g n qs t s =
    rest_of g n t.moment t.inside (drop t.next qs) s t.instrs t.moment t.resumed (seen.told t.notes)
    (seen.frames t.notes)

-- what counts say at the end
abbrev pub counted_at : {U B : Type 0} → SeenNotes U B → Counts U → State → SampleSummary B
counted_at seen t s = record {
  arrived = t.arrived;
  state = s;
  instrs = t.instrs;
  steps = t.moment;
  resumed = t.resumed;
  told = seen.told t.notes;
  frames = seen.frames t.notes;
}

-- the row of a sample, of which this was counted
abbrev pub row_by : {S B : Type 0} → (State → List ℕ) → S → SampleSummary B → RowSeen S
row_by answers x b = record {
  sample = x;
  answers = answers b.state;
  instrs = b.instrs;
  steps = b.steps;
  resumed = b.resumed;
  frames = b.frames;
}

-- the same, as it is shown
abbrev pub shown_by : {S B T : Type 0} → (RowSeen S → List B → T) → (State → List ℕ) → SampleSummary B → S → T
shown_by shows answers b x = shows (row_by answers x b) b.told
