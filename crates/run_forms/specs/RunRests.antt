-- Where a run under way stands, and the rest of it.
-- Beside the promise.
use Rattle.std.specs.Prelude.{◌≡◌, ◌≤◌, ℕ, zero, suc, ◌+◌, ◌-◌, Option, Some, None, List, [], ◌∷◌, ◌++◌}
use Rattle.std.specs.Prelude.{length, take, drop, map, slice_get, vec_len, vec_capacity}
use Rattle.cpu12_parts.specs.State.{State}
use Rattle.run_law.specs.Forms.{RowSeen, Rows, rows_from}
use Rattle.run_forms.specs.{declared.run_state.RunState.RunState, Forms.plan_form, Forms.Harness}
use Rattle.run_forms.specs.{Rest.counted_at, Rest.shown_by, Rows.of_sample, Rows.shown}
use Rattle.run_forms.specs.{Slices.HaveRoom, Slices.Follow}
use Rattle.run_forms.specs.SampleRests.{SampleRest, after_takes, IsSteady}
use Rattle.run_forms.specs.Positions.{Position, numbered, all_numbered, positions}

-- the rest of a run: positions, all rows with those before, as they are shown, and the last state
pub record RunRest (T : Type 0) : Type 0 where
  pub left : List Position
  pub rows : List T
  pub state : State

-- The rest of a run under way: where it stands, the positions after it, all rows of the run, and the last state.
pub record RestHere (T : Type 0) : Type 0 where
  pub here : Position
  pub later : List Position
  pub rows : List T
  pub state : State

-- the same, with where it stands as the first of the positions
abbrev pub from_here : {T : Type 0} → RestHere T → RunRest T
from_here o = record { left = o.here ∷ o.later; rows = o.rows; state = o.state }

-- a position, and the rest of the run behind it
abbrev pub at_position : {T : Type 0} → Position → RunRest T → RestHere T
at_position p a = record { here = p; later = a.left; rows = a.rows; state = a.state }

-- a whole run from its first state: its positions, its rows, and its last state
abbrev pub of_run : {S A B : Type 0} → State → Rows S A B → RunRest (RowSeen S)
of_run first all = record { left = positions first all; rows = all.rows; state = all.state }

-- the same, with its rows as they are shown
abbrev pub shown_run : {S A B T : Type 0} → (RowSeen S → List B → T) → State → Rows S A B → RunRest T
shown_run shows first all = record { left = positions first all; rows = shown shows all; state = all.state }

-- before sample number k is given, with the requests that are left of the plan and the rows of the samples before
abbrev pub rest_before : {A U R S B T : Type 0} → ℕ → Harness A U R S B T → ℕ → ℕ → List A → List S → List T → State
    → RunRest T
rest_before flags h most k plan rest rows s =
    let all = rows_from (plan_form flags h.parts) most (λ j. of_sample h.parts.place j plan) k rest s in
    record { left = all_numbered k all.states; rows = rows ++ shown h.shows all; state = all.state }

-- the sample of this number; before the first there is none
abbrev pub sample_at : {S : Type 0} → ℕ → List S → Option S
sample_at zero samples = None
sample_at (suc k) samples = slice_get samples k

-- the rows with that of a sample, and the state after it is taken away
abbrev pub with_row : {S T : Type 0} → List T → (S → T) → Option S → List T
with_row rows row None = rows
with_row rows row (Some x) = rows ++ row x ∷ []

abbrev pub left_by : {S : Type 0} → (S → State → State) → Option S → State → State
left_by leave None s = s
left_by leave (Some x) s = leave x s

-- at a boundary of sample number k, where `c` is to come of the sample
abbrev pub rest_by : {A U R S B T : Type 0} → ℕ → Harness A U R S B T → ℕ → ℕ → ℕ → Option S → State → SampleRest A B
    → List A → List S → List T → RestHere T
rest_by flags h most k moment x s c plan rest rows =
    let with_this = with_row rows (shown_by h.shows h.parts.answers c.summary) x in
    let next = rest_before flags h most (k + 1) plan rest with_this (left_by h.parts.leave x c.summary.state) in
    record {
      here = record { sample = k; moment = moment; state = s };
      later = numbered k (suc moment) (drop 1 c.states) ++ next.left;
      rows = next.rows;
      state = next.state;
    }

-- the requests of the sample in which a run under way stands
abbrev pub requests_at : {A U R : Type 0} → List A → RunState U R → List A
requests_at plan p = take (p.behind - p.first) (drop p.first plan)

abbrev pub rest_here : {A U R S B T : Type 0} → ℕ → Harness A U R S B T → List A → RunState U R → State → RestHere T
rest_here flags h plan p s =
    let this = after_takes flags h (requests_at plan p) p.sample s in
    rest_by flags h p.most p.number p.sample.counts.moment (sample_at p.number h.samples) s this
    (drop p.behind plan) (drop p.number h.samples) (map h.seen p.rows.items)

-- the rows of a run under way, where its sample ends here, and the state after that
abbrev pub rows_here : {A U R S B T : Type 0} → Harness A U R S B T → RunState U R → State → List T
rows_here h p s =
    let row = shown_by h.shows h.parts.answers (counted_at h.notes p.sample.counts s) in
    with_row (map h.seen p.rows.items) row (sample_at p.number h.samples)

abbrev pub state_here : {A U R S B T : Type 0} → Harness A U R S B T → RunState U R → State → State
state_here h p s = left_by h.parts.leave (sample_at p.number h.samples) s

-- A run under way: the plan from `behind` on is that of the samples that are left, and there is room
-- for what they push and tell, and for their rows.
pub record IsUnderWay {A U R S B T : Type 0} (fits : U → ℕ → Type 0) (h : Harness A U R S B T) (plan : List A)
    (p : RunState U R) : Type 0 where
  pub few : length plan ≤ 10000
  pub number : p.number ≤ length h.samples
  pub first : p.first ≤ p.behind
  pub behind : p.behind ≤ length plan
  pub follow : Follow h.parts.place (p.number + 1) (drop p.behind plan)
  pub rooms :
      HaveRoom fits h.notes h.parts.place (p.number + 1) (length h.samples - p.number) (drop p.behind plan)
      p.rooms.items
  pub rows : vec_len p.rows ≡ p.number - 1
  pub room : length h.samples ≤ vec_capacity p.rows
  pub sample : IsSteady fits (requests_at plan p) p.sample
