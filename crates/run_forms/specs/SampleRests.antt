-- What is to come of a sample's run, at a boundary of it.
-- Beside the promise.
use Rattle.std.specs.Prelude.{◌≡◌, ◌≤◌, ◌<◌, ℕ, ◌+◌, ◌-◌, ◌^◌, not, Bool, false}
use Rattle.std.specs.Prelude.{if◌then◌else◌, Result, Ok, Err, List, [], ◌∷◌, ◌++◌, length, drop}
use Rattle.cpu12_parts.specs.State.{State}
use Rattle.cpu12_emul.specs.Step.{Next, next_of, is_part}
use Rattle.run_law.specs.Forms.{one_if, run_from}
use Rattle.run_forms.specs.declared.{sample.Counts.Counts, boundary.SampleState.SampleState}
use Rattle.run_forms.specs.Forms.{plan_form, SeenNotes, Harness}
use Rattle.run_forms.specs.Rest.{SampleSummary, rest_at, counted_at}

-- the rest of a sample's run: what is counted in the end, the requests that are left there, and the states at its
-- boundaries from here on
pub record SampleRest (A B : Type 0) : Type 0 where
  pub summary : SampleSummary B
  pub requests : List A
  pub states : List State

abbrev pub after_state : {A B : Type 0} → State → SampleRest A B → SampleRest A B
after_state s c = record { summary = c.summary; requests = c.requests; states = s ∷ c.states }

abbrev pub after_states : {A B : Type 0} → List State → SampleRest A B → SampleRest A B
after_states ss c = record { summary = c.summary; requests = c.requests; states = ss ++ c.states }

-- at a boundary, before what is taken there
abbrev pub before_takes : {A U R S B T : Type 0} → ℕ → Harness A U R S B T → List A → SampleState U → State
    → SampleRest A B
before_takes flags h qs st s =
    let g = plan_form flags h.parts in
    let r = run_from g st.left st.counts.moment st.counts.inside (drop st.counts.next qs) s in
    record { summary = rest_at h.notes g st.left qs st.counts s; requests = r.left; states = r.states }

-- at the sample's end
abbrev pub at_end : {A U B : Type 0} → SeenNotes U B → List A → Counts U → State → SampleRest A B
at_end seen qs t s = record { summary = counted_at seen t s; requests = drop t.next qs; states = s ∷ [] }

-- counts after a step of a kind
abbrev pub stepped_counts : {U : Type 0} → Counts U → Bool → Counts U
stepped_counts t part = record t { moment = t.moment + 1; inside = part; instrs = t.instrs + one_if (not part) }

-- after what is taken, by the step from there
abbrev pub by_step : {A U R S B T : Type 0} → ℕ → Harness A U R S B T → List A → SampleState U → State → Result Next ℕ
    → SampleRest A B
by_step flags h qs st s (Ok next) =
    after_state s
    (before_takes flags h qs (record st { counts = stepped_counts st.counts (is_part next.kind) }) next.state)
by_step flags h qs st s (Err byte) = at_end h.notes qs st.counts s

-- at a boundary, after what is taken there
abbrev pub after_takes : {A U R S B T : Type 0} → ℕ → Harness A U R S B T → List A → SampleState U → State
    → SampleRest A B
after_takes flags h qs st s =
    if st.over then at_end h.notes qs st.counts s else by_step flags h qs st s (next_of flags s)

-- A sample's state where it comes to a boundary: it is not over, there is room for the requests that are left, and no
-- count is too large.
pub record Arrives {A U : Type 0} (fits : U → ℕ → Type 0) (requests : List A) (st : SampleState U) : Type 0 where
  pub on : (st.over ≡ false) × (st.counts.arrived ≡ false)
  pub next : st.counts.next ≤ length requests
  pub room : fits st.counts.notes (length requests - st.counts.next)
  pub counts : (st.counts.instrs ≤ st.counts.moment) × (st.counts.resumed ≤ st.counts.moment)
  pub sum : st.counts.moment + st.left < 2 ^ 32

-- A sample's state that may go on: there is room for the requests that are left, and no count is too large.
pub record IsSteady {A U : Type 0} (fits : U → ℕ → Type 0) (requests : List A) (st : SampleState U) : Type 0 where
  pub next : st.counts.next ≤ length requests
  pub room : fits st.counts.notes (length requests - st.counts.next)
  pub instrs : st.counts.instrs ≤ st.counts.moment
  pub resumed : st.counts.resumed ≤ st.counts.moment + 1
  pub on : st.over ≡ false → (st.counts.arrived ≡ false) × (st.counts.moment + st.left + 1 < 2 ^ 32)

-- a sample's state inside an instruction, after n more parts of it at whose ends nothing is taken
abbrev pub after_parts : {U : Type 0} → ℕ → SampleState U → SampleState U
after_parts n st = record st { counts = record (st.counts) { moment = st.counts.moment + n }; left = st.left - n }

-- no request is due at the n boundaries after boundary m
abbrev pub NoneDue : {A : Type 0} → (A → ℕ) → ℕ → ℕ → List A → Type 0
NoneDue moment m n [] = Unit {0}
NoneDue moment m n (q ∷ qs) = 1 ≤ n → m + n < moment q
