-- Parts of an instruction that are done at once.
use Rattle.std.proofs.Common.{◌≡◌, ℕ, zero, suc, ◌+◌, ◌-◌, ◌<◌, ◌≤◌, true, false, nat_le, Ok, List, [], ◌∷◌}
use Rattle.std.proofs.Common.{◌++◌, length, length-append, length-drop, map, drop, refl, ap, ap₂, sym, ◌∙◌, subst}
use Rattle.std.proofs.Common.{arith}
use Rattle.std.proofs.lemmas.Bool.{and_right}
use Rattle.std.proofs.lemmas.Bool.Decides.{nat_tests}
use Rattle.cpu12_parts.specs.State.{State}
use Rattle.cpu12_emul.specs.declared.ends.Stepped.TheVariants.{Part}
use Rattle.cpu12_emul.specs.{Run.PartsTo, Step.Whole, Step.next_of, Take.may_interrupt}
use Rattle.run_forms.specs.declared.{boundary.SampleState.SampleState, run_state.RunState.RunState}
use Rattle.run_forms.specs.Forms.{Harness, moment_in, plan_form}
use Rattle.run_forms.specs.{Rest.is_due, Rest.shown_by, Positions.Position, Positions.numbered}
use Rattle.run_forms.specs.SampleRests.{SampleRest, after_states, after_takes, after_state}
use Rattle.run_forms.specs.SampleRests.{after_parts, stepped_counts}
use Rattle.run_forms.specs.SampleRests.{IsSteady, NoneDue}
use Rattle.run_forms.specs.RunRests.{RunRest, RestHere, rest_before, at_position, from_here, left_by}
use Rattle.run_forms.specs.RunRests.{rest_by, rest_here}
use Rattle.run_forms.specs.RunRests.{requests_at, rows_here, sample_at, state_here, with_row, IsUnderWay}
use Rattle.run_forms.proofs.{SampleRests.Takes, SampleRests.stepped_here, SampleRests.taken_here, Takings.takes_end}

-- no request is due at the first of these boundaries, nor at those after it
not_due : {A : Type 0} (moment : A → ℕ) (m n : ℕ) (qs : List A) (u : State) → 1 ≤ n → NoneDue moment m n qs
    → is_due moment (m + 1) qs u ≡ false
not_due moment m n [] u h none = refl
not_due moment m n (q ∷ qs) u h none =
    let l : m + n < moment q = none h in
    let late : nat_le (moment q) (m + 1) ≡ false = grind (arith, nat_tests) in
    and_right (may_interrupt u) (nat_le (moment q) (m + 1)) late

none_later : {A : Type 0} (moment : A → ℕ) (m n : ℕ) (qs : List A) → NoneDue moment m (suc n) qs
    → NoneDue moment (m + 1) n qs
none_later moment m n [] none = tt
none_later moment m n (q ∷ qs) none = λ h. (let l : m + suc n < moment q = none (omega arith) in omega (arith, l))

none_fewer : {A : Type 0} (moment : A → ℕ) (m n k : ℕ) (qs : List A) → n ≤ k → NoneDue moment m k qs
    → NoneDue moment m n qs
none_fewer moment m n k [] few none = tt
none_fewer moment m n k (q ∷ qs) few none =
    λ h. (let l : m + k < moment q = none (omega (arith, h, few)) in omega (arith, l, few))

made : {U : Type 0} → SampleState U → ℕ → ℕ → SampleState U
made st m l = record st { counts = record (st.counts) { moment = m }; left = l }

parts_none : {U : Type 0} (st : SampleState U) → after_parts 0 st ≡ st
unfolding made
parts_none st =
    let m : st.counts.moment + 0 ≡ st.counts.moment = omega arith in
    let l : st.left - 0 ≡ st.left = omega arith in
    ap₂ (λ (m l : ℕ). made st m l) m l

parts_more : {U : Type 0} (n : ℕ) (st : SampleState U) → after_parts n (after_parts 1 st) ≡ after_parts (suc n) st
unfolding made
parts_more n st =
    let m : st.counts.moment + 1 + n ≡ st.counts.moment + suc n = omega arith in
    let l : st.left - 1 - n ≡ st.left - suc n = omega arith in
    ap₂ (λ (m l : ℕ). made st m l) m l

-- a part at whose end nothing comes
one_part : {A U R S B T : Type 0} (flags : ℕ) (h : Harness A U R S B T) (qs : List A) (st : SampleState U) (s u : State)
    → st.over ≡ false → st.counts.inside ≡ true → st.counts.arrived ≡ false → 1 ≤ st.left
    → next_of flags s ≡ Ok (record { state = u; kind = Part })
    → h.parts.ends (st.counts.moment + 1) u ≡ false
    → is_due (moment_in h.parts.place) (st.counts.moment + 1) (drop st.counts.next qs) u ≡ false
    → after_takes flags h qs st s ≡ after_state s (after_takes flags h qs (after_parts 1 st) u)
one_part {U = U} flags h qs st s u on inside alive left e busy due =
    let t = st.counts in
    let st1 : SampleState U = record st { counts = stepped_counts t true } in
    let st2 : SampleState U = after_parts 1 st in
    let instrs : t.instrs ≡ t.instrs + 0 = omega arith in
    let resumed : t.resumed ≡ t.resumed + 0 = omega arith in
    let k : Takes h.notes st1 st2 false = record {
      left = omega (arith, left);
      moment = refl;
      inside = inside;
      instrs = instrs;
      arrived = alive;
      resumed = resumed;
      taken_is = grind (arith, nat_tests);
    } in
    let takes = takes_end (plan_form flags h.parts) (t.moment + 1) (drop t.next qs) u (h.notes.frames t.notes)
    (h.notes.told t.notes) due in
    stepped_here flags h qs st st1 s u Part on e refl
    ∙ ap (after_state s) (sym (taken_here flags h qs st1 st2 u u false on busy k takes))

-- many of them
parts_on : {A U R S B T : Type 0} (P : State → Type 0) (flags : ℕ) (h : Harness A U R S B T) (qs : List A) (n : ℕ)
    (st : SampleState U) (s t : State) → ((k : ℕ) (u : State) → P u → h.parts.ends k u ≡ false) → st.over ≡ false
    → st.counts.inside ≡ true → st.counts.arrived ≡ false → n ≤ st.left
    → NoneDue (moment_in h.parts.place) st.counts.moment n (drop st.counts.next qs) → PartsTo P flags n s t
    → (states : List State)
    × (after_takes flags h qs st s ≡ after_states states (after_takes flags h qs (after_parts n st) t))
parts_on {U = U} P flags h qs zero st s t busy on inside alive left none to =
    ([], ap₂ (λ (k : SampleState U) (u : State). after_takes flags h qs k u) (sym (parts_none st)) to)
parts_on {U = U} P flags h qs (suc n) st s t busy on inside alive left none to =
    let u : State = to.0 in
    let m : ℕ = st.counts.moment in
    let moment = moment_in h.parts.place in
    let st1 : SampleState U = after_parts 1 st in
    let due = not_due moment m (suc n) (drop st.counts.next qs) u (omega arith) none in
    let one = one_part flags h qs st s u on inside alive (omega (arith, left)) to.1.0 (busy (m + 1) u to.1.1) due in
    let rest = parts_on P flags h qs n st1 u t busy on inside alive (omega (arith, left))
    (none_later moment m n (drop st.counts.next qs) none) to.1.2 in (
      s ∷ rest.0,
      one ∙ ap (after_state s) rest.1
          ∙ ap (λ (k : SampleState U). after_states (s ∷ rest.0) (after_takes flags h qs k t)) (parts_more n st),
    )

steady_parts : {A U : Type 0} (fits : U → ℕ → Type 0) (qs : List A) (n : ℕ) (st : SampleState U) → n ≤ st.left
    → IsSteady fits qs st → IsSteady fits qs (after_parts n st)
steady_parts fits qs n st left steady =
    let instrs = steady.instrs in
    let resumed = steady.resumed in
    record {
      next = steady.next;
      room = steady.room;
      instrs = omega (arith, instrs);
      resumed = omega (arith, resumed);
      on = λ e. (let on = steady.on e in (on.0, (let sum = on.1 in omega (arith, left, sum))));
    }

-- what is to come is the same from a sample's state as after parts from there, which may go on too
pub record PassesTo {A U R S B T : Type 0} (fits : U → ℕ → Type 0) (flags : ℕ) (h : Harness A U R S B T) (qs : List A)
    (st st2 : SampleState U) (s t : State) : Type 0 where
  pub rest : (states : List State)
      × (after_takes flags h qs st s ≡ after_states states (after_takes flags h qs st2 t))
  pub steady : IsSteady fits qs st2

-- parts, of which no more are done than come before a request and are left
pub passes_to : {A U R S B T : Type 0} (fits : U → ℕ → Type 0) (P : State → Type 0) (flags : ℕ)
    (h : Harness A U R S B T) (qs : List A) (most n : ℕ) (st st2 : SampleState U) (s t : State)
    → ((k : ℕ) (u : State) → P u → h.parts.ends k u ≡ false) → st.over ≡ false → st.counts.inside ≡ true
    → IsSteady fits qs st → most ≤ st.left
    → NoneDue (moment_in h.parts.place) st.counts.moment most (drop st.counts.next qs) → n ≤ most
    → PartsTo P flags n s t
    → st2 ≡ after_parts n st → PassesTo fits flags h qs st st2 s t
passes_to {U = U} fits P flags h qs most n st st2 s t busy on inside steady left none few to is =
    let within : n ≤ st.left = omega (arith, left, few) in
    let fewer = none_fewer (moment_in h.parts.place) st.counts.moment n most (drop st.counts.next qs) few none in
    let go = parts_on P flags h qs n st s t busy on inside (steady.on on).0 within fewer to in
    record {
      rest = (go.0, go.1 ∙ ap (λ (k : SampleState U). after_states go.0 (after_takes flags h qs k t)) (sym is));
      steady = subst (λ (k : SampleState U). IsSteady fits qs k) (sym is) (steady_parts fits qs n st within steady);
    }

length_numbered : (k m : ℕ) (ws : List State) → length (numbered k m ws) ≡ length ws
length_numbered k m [] = refl
length_numbered k m (w ∷ ws) = ap suc (length_numbered k (suc m) ws)

fewer : (k m m2 : ℕ) (ss ws : List State) (next : List Position)
    → length (numbered k (suc m2) (drop 1 ws) ++ next) ≤ length (numbered k (suc m) (drop 1 (ss ++ ws)) ++ next)
fewer k m m2 ss ws next =
    let after = length-append (numbered k (suc m2) (drop 1 ws)) next in
    let before = length-append (numbered k (suc m) (drop 1 (ss ++ ws))) next in
    let these = length_numbered k (suc m2) (drop 1 ws) in
    let those = length_numbered k (suc m) (drop 1 (ss ++ ws)) in
    let left = length-drop 1 ws in
    let all = length-drop 1 (ss ++ ws) in
    let both = length-append ss ws in
    omega (arith, after, before, these, those, left, all, both)

-- o2 has what o has, but for positions that were passed
pub record PassesOn {T : Type 0} (o o2 : RestHere T) : Type 0 where
  pub rows : o2.rows ≡ o.rows
  pub state : o2.state ≡ o.state
  pub less : length o2.later < length o.later

-- a position further, and then by parts that were done at once
passed : {A U R S B T : Type 0} (flags : ℕ) (h : Harness A U R S B T) (plan : List A) (p : RunState U R)
    (st : SampleState U)
    (o : RestHere T)
    (s t : State) (at : Position) (states : List State) → o ≡ at_position at (from_here (rest_here flags h plan p s))
    → after_takes flags h (requests_at plan p) p.sample s ≡ after_states states
    (after_takes flags h (requests_at plan p) st t)
    → PassesOn o (rest_here flags h plan (record p { sample = st }) t)
passed {A = A} {B = B} {T = T} flags h plan p st o s t at states goes on =
    let x = sample_at p.number h.samples in
    let later = drop p.behind plan in
    let rest = drop p.number h.samples in
    let rows : List T = map h.seen p.rows.items in
    let k : ℕ = p.number in
    let m : ℕ = p.sample.counts.moment in
    let c : SampleRest A B = after_takes flags h (requests_at plan p) st t in
    let next : RunRest T =
    rest_before flags h p.most (k + 1) later rest (with_row rows (shown_by h.shows h.parts.answers c.summary) x)
    (left_by h.parts.leave x c.summary.state) in
    let by : SampleRest A B → RestHere T = λ d. rest_by flags h p.most k m x s d later rest rows in
    let here : o ≡ at_position at (from_here (by (after_states states c))) =
    goes ∙ ap (λ (d : SampleRest A B). at_position at (from_here (by d))) on in
    let all = ap (λ (q : RestHere T). length q.later) here in
    let few = fewer k m st.counts.moment states c.states next.left in
    record {
      rows = sym (ap (λ (q : RestHere T). q.rows) here);
      state = sym (ap (λ (q : RestHere T). q.state) here);
      less = omega (arith, all, few);
    }

pub passes_on : {A U R S B T : Type 0} (flags i j : ℕ) (h : Harness A U R S B T) (plan : List A) (l p : RunState U R)
    (st : SampleState U)
    (r s t : State) (at : Position) (states : List State) → i ≡ flags → j ≡ flags
    → rest_here i h plan l r ≡ at_position at (from_here (rest_here i h plan p s))
    → after_takes j h (requests_at plan p) p.sample s ≡ after_states states (after_takes j h (requests_at plan p) st t)
    → PassesOn (rest_here flags h plan l r) (rest_here flags h plan (record p { sample = st }) t)
passes_on flags i j h plan l p st r s t at states ei ej goes on =
    passed flags h plan p st (rest_here flags h plan l r) s t at states
    (subst (λ (k : ℕ). rest_here k h plan l r ≡ at_position at (from_here (rest_here k h plan p s))) ei goes)
    (subst (λ (k : ℕ). after_takes k h (requests_at plan p) p.sample s ≡ after_states states
    (after_takes k h (requests_at plan p) st t)) ej on)

-- a run is under way where its sample's state further on may go on
pub under_way_on : {A U R S B T : Type 0} {fits : U → ℕ → Type 0} {h : Harness A U R S B T} {plan : List A}
    {p : RunState U R} {st : SampleState U}
    → IsUnderWay fits h plan p → IsSteady fits (requests_at plan p) st → IsUnderWay fits h plan
    (record p { sample = st })
under_way_on under_way steady = record {
  few = under_way.few;
  number = under_way.number;
  first = under_way.first;
  behind = under_way.behind;
  follow = under_way.follow;
  rooms = under_way.rooms;
  rows = under_way.rows;
  room = under_way.room;
  sample = steady;
}

-- these are the rows and the state of the rest of a run
pub record HasAll {T : Type 0} (rows : List T) (state : State) (o : RestHere T) : Type 0 where
  pub rows_are : rows ≡ o.rows
  pub state_is : state ≡ o.state

-- so they are those of a run that has no position further, and stays
pub stays_here : {A U R S B T : Type 0} (flags : ℕ) (h : Harness A U R S B T) (plan : List A) (p q : RunState U R)
    (m n : Whole) (at : Position) → q ≡ p → n ≡ m → m.flags ≡ flags
    → rest_here m.flags h plan p m.state
    ≡ record { here = at; later = []; rows = rows_here h p m.state; state = state_here h p m.state }
    → HasAll (rows_here h q n.state) (state_here h q n.state) (rest_here flags h plan p m.state)
stays_here {U = U} {R = R} {T = T} flags h plan p q m n at same_run same_machine same_flags ends =
    let all : rest_here flags h plan p m.state
    ≡ record { here = at; later = []; rows = rows_here h p m.state; state = state_here h p m.state } =
    subst (λ (k : ℕ). rest_here k h plan p m.state
    ≡ record { here = at; later = []; rows = rows_here h p m.state; state = state_here h p m.state }) same_flags ends in
    record {
      rows_are = ap₂ (λ (k : RunState U R) (l : Whole). rows_here h k l.state) same_run same_machine
          ∙ sym (ap (λ (o : RestHere T). o.rows) all);
      state_is = ap₂ (λ (k : RunState U R) (l : Whole). state_here h k l.state) same_run same_machine
          ∙ sym (ap (λ (o : RestHere T). o.state) all);
    }
