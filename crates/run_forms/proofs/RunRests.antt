-- The rest of a run, by its next position.
use Rattle.std.proofs.Common.{◌≡◌, ◌≤◌, ◌<◌, ℕ, zero, suc, ◌+◌, ◌-◌, Bool, true, false, Result, Ok, Err, List, [], ◌∷◌}
use Rattle.std.proofs.Common.{◌++◌, length, drop, refl, ap, ap₂, sym, ◌∙◌, subst, arith}
use Rattle.std.proofs.Common.{append_assoc, append-nil}
use Rattle.std.proofs.lemmas.List.{drop_all}
use Rattle.std.specs.Prelude.{if◌then◌else◌, Option, Some, slice_get, map}
use Rattle.cpu12_parts.specs.State.{State}
use Rattle.cpu12_emul.specs.{Take.FrameSeen, Step.Next, Step.next_of}
use Rattle.run_law.specs.Forms.{Form, Ran, run_from, row_of, Rows}
use Rattle.run_forms.specs.declared.{boundary.SampleState.SampleState}
use Rattle.run_forms.specs.declared.{sample.Counts.Counts, run_state.RunState.RunState}
use Rattle.run_forms.specs.{Forms.plan_form, Forms.SeenNotes, Forms.Harness, Rows.tellings, Rows.shown}
use Rattle.run_forms.specs.Rest.{SampleSummary, summary, after, rest_at, shown_by}
use Rattle.run_forms.specs.Slices.{Follow, requests_first, HasRoom}
use Rattle.run_forms.specs.Positions.{Position, numbered, all_numbered}
use Rattle.run_forms.specs.SampleRests.{SampleRest, before_takes, after_takes, after_state, at_end, by_step, IsSteady}
use Rattle.run_forms.specs.RunRests.{RunRest, from_here, at_position, rest_before}
use Rattle.run_forms.specs.RunRests.{sample_at, with_row}
use Rattle.run_forms.specs.RunRests.{left_by, rest_by, rest_here, requests_at, rows_here, state_here}
use Rattle.run_forms.proofs.{Onward.from_nothing, RowSteps.rows_under, RowSteps.one_row, RowSteps.no_row}

abbrev pub sample_rest : {A B : Type 0} → SampleSummary B → List A → List State → SampleRest A B
sample_rest b qs ss = record { summary = b; requests = qs; states = ss }

abbrev pub rest_of_ran : {A B : Type 0} → Ran A B → SampleRest A B
rest_of_ran r = sample_rest (summary r) r.left r.states

abbrev pub made : {T : Type 0} → List Position → List T → State → RunRest T
made ps rows s = record { left = ps; rows = rows; state = s }

-- the position of a run under way
abbrev pub standing : {U R : Type 0} → RunState U R → State → Position
standing p s = record { sample = p.number; moment = p.sample.counts.moment; state = s }

-- where a session stands is the first of the states to come
pub states_here : {A U R S B T : Type 0} (flags : ℕ) (h : Harness A U R S B T) (qs : List A)
    (st : SampleState U) (s : State)
    → (after_takes flags h qs st s).states ≡ s ∷ drop 1 (after_takes flags h qs st s).states
states_here flags h qs st s = by st.over (next_of flags s)
  where
    by : (b : Bool) (o : Result Next ℕ) → (if b then at_end h.notes qs st.counts s else by_step flags h qs st s
        o).states ≡ s
        ∷ drop 1 (if b then at_end h.notes qs st.counts s else by_step flags h qs st s o).states
    by true o = refl
    by false (Ok next) = refl
    by false (Err byte) = refl

-- what is counted before the first boundary
abbrev pub fresh : {U : Type 0} → U → Counts U
fresh room = record {
  arrived = false;
  moment = 0;
  inside = false;
  next = 0;
  instrs = 0;
  resumed = 0;
  notes = room;
}

-- all of a sample's run is to come
pub fresh_rest : {A U R S B T : Type 0} (flags : ℕ) (h : Harness A U R S B T) (n : ℕ) (qs : List A) (room : U)
    (st : SampleState U) (s : State) → st.counts ≡ fresh room → st.left ≡ n
    → h.notes.frames room ≡ [] → h.notes.told room ≡ []
    → before_takes flags h qs st s ≡ rest_of_ran (run_from (plan_form flags h.parts) n 0 false qs s)
fresh_rest {A = A} {U = U} {S = S} {B = B} flags h n qs room st s et el ef eu =
    let g : Form S A B = plan_form flags h.parts in
    let r : Ran A B = run_from g n 0 false qs s in
    ap₂ (λ (t : Counts U) (k : ℕ). at g t k) et el
    ∙ ap₂ (λ (fs : List (ℕ × FrameSeen)) (us : List B). sample_rest (after 0 0 0 us fs (summary r))
    r.left r.states) ef eu
    ∙ ap (λ (b : SampleSummary B). sample_rest b r.left r.states) (from_nothing (summary r))
  where
    at : Form S A B → Counts U → ℕ → SampleRest A B
    at g t k =
        let r = run_from g k t.moment t.inside (drop t.next qs) s in
        sample_rest (rest_at h.notes g k qs t s) r.left r.states

-- a sample that ends here
pub ends_here : {A U R S B T : Type 0} (flags : ℕ) (h : Harness A U R S B T) (plan : List A) (p : RunState U R)
    (s : State) → after_takes flags h (requests_at plan p) p.sample s
    ≡ at_end h.notes (requests_at plan p) p.sample.counts s
    → rest_here flags h plan p s ≡ at_position (standing p s)
    (rest_before flags h p.most (p.number + 1) (drop p.behind plan) (drop p.number h.samples) (rows_here h p s)
    (state_here h p s))
ends_here {A = A} {B = B} flags h plan p s e =
    ap (λ (c : SampleRest A B). rest_by flags h p.most p.number p.sample.counts.moment
    (sample_at p.number h.samples) s c
    (drop p.behind plan) (drop p.number h.samples) (map h.seen p.rows.items)) e

-- the last sample, at its end
pub last_here : {A U R S B T : Type 0} (flags : ℕ) (h : Harness A U R S B T) (plan : List A) (p : RunState U R)
    (s : State) → after_takes flags h (requests_at plan p) p.sample s
    ≡ at_end h.notes (requests_at plan p) p.sample.counts s
    → length h.samples ≤ p.number
    → rest_here flags h plan p s ≡ at_position (standing p s) (made [] (rows_here h p s) (state_here h p s))
last_here {A = A} {S = S} {B = B} {T = T} flags h plan p s e last =
    let here = standing p s in
    let k = p.number + 1 in
    let rest : List A = drop p.behind plan in
    let rows : List T = rows_here h p s in
    let u : State = state_here h p s in
    ends_here flags h plan p s e
    ∙ ap (λ (l : List S). at_position here (rest_before flags h p.most k rest l rows u))
    (drop_all p.number h.samples last)
    ∙ ap (λ (all : Rows S A B). at_position here
    (made (all_numbered k all.states) (rows ++ shown h.shows all) all.state))
    (no_row (plan_form flags h.parts) h.parts.place p.most rest k u)
    ∙ ap (λ (l : List T). at_position here (made [] l u)) (append-nil rows)

-- a sample that ends here, and the next at its first boundary, to which a run comes from what is the same
pub next_here : {A U R S B T : Type 0} (flags j : ℕ) (h : Harness A U R S B T) (plan : List A) (p q : RunState U R)
    (st : SampleState U) (s u t : State) → after_takes flags h (requests_at plan p) p.sample s
    ≡ at_end h.notes (requests_at plan p) p.sample.counts s
    → st ≡ p.sample → u ≡ s → j ≡ flags
    → from_here (rest_here j h plan q t)
    ≡ rest_before j h p.most (p.number + 1) (drop p.behind plan) (drop p.number h.samples)
    (rows_here h (record p { sample = st }) u) (state_here h p u)
    → rest_here flags h plan p s ≡ at_position (standing p s) (from_here (rest_here flags h plan q t))
next_here {U = U} flags j h plan p q st s u t e same_sample same_state same_flags comes =
    let here = standing p s in
    ends_here flags h plan p s e
    ∙ ap₂ (λ (k : SampleState U) (v : State). at_position here
    (rest_before flags h p.most (p.number + 1) (drop p.behind plan)
    (drop p.number h.samples) (rows_here h (record p { sample = k }) v) (state_here h p v)))
    (sym same_sample) (sym same_state)
    ∙ ap (at_position here) (sym
    (subst (λ (k : ℕ). from_here (rest_here k h plan q t)
    ≡ rest_before k h p.most (p.number + 1) (drop p.behind plan) (drop p.number h.samples)
    (rows_here h (record p { sample = st }) u) (state_here h p u)) same_flags comes))

-- a sample that goes on
pub goes_here : {A U R S B T : Type 0} (flags : ℕ) (h : Harness A U R S B T) (plan : List A) (p : RunState U R)
    (st : SampleState U) (s t : State)
    → after_takes flags h (requests_at plan p) p.sample s ≡ after_state s
    (after_takes flags h (requests_at plan p) st t)
    → st.counts.moment ≡ p.sample.counts.moment + 1
    → rest_here flags h plan p s ≡ at_position (standing p s)
    (from_here (rest_here flags h plan (record p { sample = st }) t))
goes_here {A = A} {B = B} {T = T} flags h plan p st s t e next_moment =
    let k = p.number in
    let m = p.sample.counts.moment in
    let x = sample_at k h.samples in
    let later : List A = drop p.behind plan in
    let rest = drop k h.samples in
    let rows : List T = map h.seen p.rows.items in
    let c : SampleRest A B = after_takes flags h (requests_at plan p) st t in
    let next : RunRest T =
    rest_before flags h p.most (k + 1) later rest (with_row rows (shown_by h.shows h.parts.answers c.summary) x)
    (left_by h.parts.leave x c.summary.state) in
    let one : suc m ≡ st.counts.moment = omega (arith, next_moment) in
    ap (λ (d : SampleRest A B). rest_by flags h p.most k m x s d later rest rows) e
    ∙ ap₂ (λ (j : ℕ) (ws : List State). at_position (standing p s)
    (made (numbered k j ws ++ next.left) next.rows next.state)) one
    (states_here flags h (requests_at plan p) st t)

-- the first boundary of a sample that was given
pub given_rest : {A U R S B T : Type 0} (flags : ℕ) (h : Harness A U R S B T) (most n m : ℕ) (plan plan2 qs : List A)
    (o : Option S) (y : S) (rest : List S) (rows : List T) (s t : State) (c : SampleRest A B)
    → Follow h.parts.place (n + 1) plan
    → qs ≡ requests_first h.parts.place (n + 1) plan
    → plan2 ≡ drop (length (requests_first h.parts.place (n + 1) plan)) plan
    → c ≡ rest_of_ran (run_from (plan_form flags h.parts) most 0 false qs (h.parts.give y s))
    → c.states ≡ t ∷ drop 1 c.states → m ≡ 0 → o ≡ Some y
    → from_here (rest_by flags h most (n + 1) m o t c plan2 rest rows) ≡ rest_before flags h most (n + 1) plan
    (y ∷ rest) rows s
given_rest {A = A} {S = S} {B = B} {T = T} flags h most n m plan plan2 qs o y rest rows s t c follow eq ep ec
    here em eo =
    let k : ℕ = n + 1 in
    let g : Form S A B = plan_form flags h.parts in
    let r : Ran A B = run_from g most 0 false (requests_first h.parts.place k plan) (g.give y s) in
    let u : State = g.leave y r.state in
    let row : T = h.shows (row_of g y r) (tellings r.told) in
    let left : List A = drop (length (requests_first h.parts.place k plan)) plan in
    let all : Rows S A B = rows_under g h.parts.place most left (k + 1) rest u in
    let same : c ≡ rest_of_ran r = ec ∙ ap (λ (l : List A). rest_of_ran (run_from g most 0 false l (g.give y s))) eq in
    let next : suc k ≡ k + 1 = omega arith in
    ap first em
    ∙ ap (λ (ws : List State). started ws) (sym here)
    ∙ ap (λ (x : Option S). full c plan2 x) eo
    ∙ ap₂ (λ (d : SampleRest A B) (p : List A). full d p (Some y)) same ep
    ∙ ap₂ (λ (j : ℕ) (l : List T). made (numbered k 0 r.states ++ all_numbered j all.states) l all.state) (sym next)
    (append_assoc rows (row ∷ []) (shown h.shows all))
    ∙ ap (λ (rs : Rows S A B). made (all_numbered k rs.states) (rows ++ shown h.shows rs) rs.state)
    (sym (one_row g h.parts.place most plan k y rest s r follow refl))
  where
    full : SampleRest A B → List A → Option S → RunRest T
    full d p x =
        let next = rest_before flags h most (n + 1 + 1) p rest
        (with_row rows (shown_by h.shows h.parts.answers d.summary) x)
        (left_by h.parts.leave x d.summary.state) in
        made (numbered (n + 1) 0 d.states ++ next.left) next.rows next.state

    first : ℕ → RunRest T
    first j = from_here (rest_by flags h most (n + 1) j o t c plan2 rest rows)

    started : List State → RunRest T
    started ws =
        let next = rest_before flags h most (n + 1 + 1) plan2 rest
        (with_row rows (shown_by h.shows h.parts.answers c.summary) o) (left_by h.parts.leave o c.summary.state) in
        made (numbered (n + 1) 0 ws ++ next.left) next.rows next.state

-- a sample of a list, and those behind it
pub record There {S : Type 0} (samples : List S) (n : ℕ) : Type 0 where
  pub sample : S
  pub at : slice_get samples n ≡ Some sample
  pub rest : drop n samples ≡ sample ∷ drop (n + 1) samples

pub is_there : {S : Type 0} (samples : List S) (n : ℕ) → n < length samples → There samples n
is_there [] n h = absurd (omega (arith, h))
is_there (x ∷ xs) zero h = record { sample = x; at = refl; rest = refl }
is_there (x ∷ xs) (suc n) h =
    let r = is_there xs n (omega (arith, h)) in
    let e : suc (n + 1) ≡ suc n + 1 = omega arith in
    record { sample = r.sample; at = r.at; rest = r.rest ∙ ap (λ (k : ℕ). r.sample ∷ drop k (x ∷ xs)) e }

-- the sample of a number, by those before it
pub sample_next : {S : Type 0} (n : ℕ) (samples : List S) → sample_at (n + 1) samples ≡ slice_get samples n
sample_next n samples = let e : n + 1 ≡ suc n = omega arith in ap (λ (k : ℕ). sample_at k samples) e

pub sample_before : {S : Type 0} (n : ℕ) (samples : List S) → 0 < n → sample_at n samples ≡ slice_get samples (n - 1)
sample_before zero samples h = absurd (omega (arith, h))
sample_before (suc n) samples h = let e : n ≡ suc n - 1 = omega arith in ap (λ (k : ℕ). slice_get samples k) e

-- there is room before a sample's first boundary
pub given_room : {A U B : Type 0} (fits : U → ℕ → Type 0) (seen : SeenNotes U B) (qs first : List A) (room : U)
    (t : Counts U) → t ≡ fresh room
    → HasRoom fits seen first room → qs ≡ first → length qs ≤ 10000 → fits t.notes (length qs - t.next)
given_room {A = A} {U = U} fits seen qs first room t et h eq few =
    let all : length qs - 0 ≡ length qs = omega arith in
    subst (λ (u : Counts U). fits u.notes (length qs - u.next)) (sym et)
    (subst (λ (k : ℕ). fits room k) (sym all)
    (subst (λ (l : List A). length l ≤ 10000 → fits room (length l)) (sym eq) h.enough few))

-- the sample's state before the first sample
pub steady_before : {A U B : Type 0} (fits : U → ℕ → Type 0) (seen : SeenNotes U B) (room : U) (st : SampleState U)
    → st.counts ≡ fresh room
    → HasRoom {A = A} fits seen [] room → IsSteady {A = A} fits [] (record st { over = true })
steady_before {A = A} {U = U} fits seen room st et empty =
    let t : Counts U = st.counts in
    let moment : t.moment ≡ 0 = ap (λ (u : Counts U). u.moment) et in
    let instrs : t.instrs ≡ 0 = ap (λ (u : Counts U). u.instrs) et in
    let resumed : t.resumed ≡ 0 = ap (λ (u : Counts U). u.resumed) et in
    let none : List A = [] in
    record {
      next = (let next : t.next ≡ 0 = ap (λ (u : Counts U). u.next) et in omega (arith, next));
      room = given_room fits seen none none room t et empty refl (omega arith);
      instrs = omega (arith, moment, instrs);
      resumed = omega (arith, moment, resumed);
      on = λ e. absurd (let no : true ≡ false = e in cc);
    }
