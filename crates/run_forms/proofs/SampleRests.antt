-- What is to come of a sample is the same before and after what is taken at a boundary.
use Rattle.std.proofs.Common.{◌≡◌, ◌<◌, ℕ, suc, ◌+◌, ◌-◌, Bool, true, false, ◌&&◌, nat_lt, Result, Ok, Err, List}
use Rattle.std.proofs.Common.{length, drop, refl, ap, ap₂, sym, ◌∙◌, arith}
use Rattle.std.specs.Prelude.{if◌then◌else◌}
use Rattle.cpu12_parts.specs.State.{State}
use Rattle.cpu12_emul.specs.{Step.Next, Step.next_of, Step.is_part, declared.ends.Stepped.Stepped}
use Rattle.run_law.specs.Forms.{Form, Ran, takes, one_if}
use Rattle.run_forms.specs.declared.{boundary.SampleState.SampleState, sample.Counts.Counts}
use Rattle.run_forms.specs.Rest.{SampleSummary, with_before, counted_at}
use Rattle.run_forms.specs.SampleRests.{SampleRest, before_takes, after_takes, after_state, at_end}
use Rattle.run_forms.specs.SampleRests.{by_step, stepped_counts}
use Rattle.run_forms.specs.Forms.{plan_form, SeenNotes, Harness}
use Rattle.run_forms.proofs.Onward.{onward, no_step, at_rest, spent, rest_at_end, rest_spent, runs_onward, runs_stuck}

sample_rest : {A B : Type 0} → SampleSummary B → List A → List State → SampleRest A B
sample_rest b qs ss = record { summary = b; requests = qs; states = ss }

-- a sample that is over here
pub over_here : {A U R S B T : Type 0} (flags : ℕ) (h : Harness A U R S B T) (qs : List A)
    (st : SampleState U) (s : State)
    → h.parts.ends st.counts.moment s ≡ true → at_end h.notes qs (record (st.counts) { arrived = true }) s
    ≡ before_takes flags h qs st s
unfolding sample_rest
over_here {A = A} {S = S} {B = B} flags h qs st s e =
    let t = st.counts in
    let g : Form S A B = plan_form flags h.parts in
    let a = rest_at_end g st.left t.moment t.inside (drop t.next qs) s t.instrs t.moment t.resumed
    (h.notes.told t.notes) (h.notes.frames t.notes) e in
    let b = at_rest g st.left t.moment t.inside (drop t.next qs) s e in
    sym
    (ap₂ (λ (x : SampleSummary B) (r : Ran A B). sample_rest x r.left r.states) a b)

pub spent_here : {A U R S B T : Type 0} (flags : ℕ) (h : Harness A U R S B T) (qs : List A)
    (st : SampleState U) (s : State)
    → st.left ≡ 0 → h.parts.ends st.counts.moment s ≡ st.counts.arrived → at_end h.notes qs st.counts s
    ≡ before_takes flags h qs st s
unfolding sample_rest
spent_here {A = A} {S = S} {B = B} flags h qs st s z e =
    let t = st.counts in
    let g : Form S A B = plan_form flags h.parts in
    let a = rest_spent g st.left t.moment t.inside (drop t.next qs) s t.instrs t.moment t.resumed
    (h.notes.told t.notes) (h.notes.frames t.notes) z
    ∙ ap (λ (b : Bool). counted_at h.notes (record t { arrived = b }) s) e in
    let b = spent g st.left t.moment t.inside (drop t.next qs) s z in
    sym (ap₂ (λ (x : SampleSummary B) (r : Ran A B). sample_rest x r.left r.states) a b)

-- the sample's state after what was taken
pub record Takes {U B : Type 0} (notes : SeenNotes U B) (st st2 : SampleState U) (taken : Bool) : Type 0 where
  pub left : st.left ≡ suc st2.left
  pub moment : st2.counts.moment ≡ st.counts.moment
  pub inside : st2.counts.inside ≡ st.counts.inside
  pub instrs : st2.counts.instrs ≡ st.counts.instrs
  pub arrived : st2.counts.arrived ≡ false
  pub resumed : st2.counts.resumed ≡ st.counts.resumed + one_if (st.counts.inside && taken)
  pub taken_is : taken ≡ nat_lt (length (notes.frames st.counts.notes)) (length (notes.frames st2.counts.notes))

-- a sample's state with these counts of what was taken there, so many boundaries resumed more, and a step less to go
abbrev pub with_taken : {U : Type 0} → SampleState U → Counts U → ℕ → SampleState U
with_taken st t resumed = record {
  counts = record t { resumed = t.resumed + resumed };
  left = st.left - 1;
  over = st.over;
}

pub takes_are : {U B : Type 0} (notes : SeenNotes U B) (st : SampleState U) (t : Counts U) (resumed : ℕ) (taken : Bool)
    → t ≡ record (st.counts) { next = t.next; notes = t.notes } → st.counts.arrived ≡ false
    → 0 < st.left → resumed ≡ one_if (t.inside && taken)
    → taken ≡ nat_lt (length (notes.frames st.counts.notes)) (length (notes.frames t.notes))
    → Takes notes st (with_taken st t resumed) taken
takes_are {U = U} notes st t resumed taken rest alive some resumes taken_is =
    let inside : t.inside ≡ st.counts.inside = ap (λ (k : Counts U). k.inside) rest in
    record {
      left = omega (arith, some);
      moment = ap (λ (k : Counts U). k.moment) rest;
      inside = inside;
      instrs = ap (λ (k : Counts U). k.instrs) rest;
      arrived = ap (λ (k : Counts U). k.arrived) rest ∙ alive;
      resumed = ap₂ (λ (x y : ℕ). x + y) (ap (λ (k : Counts U). k.resumed) rest)
          (resumes ∙ ap (λ (b : Bool). one_if (b && taken)) inside);
      taken_is = taken_is;
    }

-- what is to come is the same after what is taken
pub taken_here : {A U R S B T : Type 0} (flags : ℕ) (h : Harness A U R S B T) (qs : List A) (st st2 : SampleState U)
    (s s2 : State) (taken : Bool) → st2.over ≡ false → h.parts.ends st.counts.moment s ≡ false
    → Takes h.notes st st2 taken
    → with_before (h.notes.frames st.counts.notes) (h.notes.told st.counts.notes)
    (takes (plan_form flags h.parts) st.counts.moment (drop st.counts.next qs) s)
    ≡ record {
      state = s2;
      frames = h.notes.frames st2.counts.notes;
      told = h.notes.told st2.counts.notes;
      left =
          drop st2.counts.next qs;
    }
    → after_takes flags h qs st2 s2 ≡ before_takes flags h qs st s
unfolding sample_rest
taken_here {A = A} {S = S} {B = B} flags h qs st st2 s s2 taken goes_on on k te =
    ap (λ (b : Bool). if b then at_end h.notes qs st2.counts s2 else by_step flags h qs st2 s2
    (next_of flags s2)) goes_on
    ∙ by (next_of flags s2) refl
  where
    g : Form S A B
    g = plan_form flags h.parts

    by : (o : Result Next ℕ) → next_of flags s2 ≡ o → by_step flags h qs st2 s2 o ≡ before_takes flags h qs st s
    by (Ok next) e =
        let t = st.counts in
        let t2 = st2.counts in
        let a = onward g st2.left t.moment t.inside taken (drop t.next qs) (drop t2.next qs) s s2 next t.instrs t.moment
        t.resumed (h.notes.frames t.notes) (h.notes.frames t2.notes) (h.notes.told t.notes)
        (h.notes.told t2.notes) on te e k.taken_is in
        let b = runs_onward g st2.left t.moment t.inside (drop t.next qs) (drop t2.next qs) s s2 next
        (h.notes.frames t.notes) (h.notes.frames t2.notes) (h.notes.told t.notes)
        (h.notes.told t2.notes) on te e in
        let left = k.left in let moment = k.moment in let instrs = k.instrs in let resumed = k.resumed in
        cc
    by (Err byte) e =
        let t = st.counts in
        let t2 = st2.counts in
        let a = no_step g st2.left t.moment t.inside taken (drop t.next qs) (drop t2.next qs) s s2 byte t.instrs
        t.moment t.resumed (h.notes.frames t.notes) (h.notes.frames t2.notes) (h.notes.told t.notes)
        (h.notes.told t2.notes) on te e k.taken_is in
        let b = runs_stuck g st2.left t.moment t.inside (drop t.next qs) (drop t2.next qs) s s2 byte
        (h.notes.frames t.notes) (h.notes.frames t2.notes) (h.notes.told t.notes)
        (h.notes.told t2.notes) on te e in
        let left = k.left in let moment = k.moment in let instrs = k.instrs in let resumed = k.resumed in
        let arrived = k.arrived in
        cc

-- a step from a boundary, and none
pub stepped_here : {A U R S B T : Type 0} (flags : ℕ) (h : Harness A U R S B T) (qs : List A) (st st2 : SampleState U)
    (s s2 : State) (kind : Stepped) → st.over ≡ false
    → next_of flags s ≡ Ok (record { state = s2; kind = kind })
    → st2 ≡ record st { counts = stepped_counts st.counts (is_part kind) }
    → after_takes flags h qs st s ≡ after_state s (before_takes flags h qs st2 s2)
stepped_here {U = U} flags h qs st st2 s s2 kind on e es =
    ap₂ (λ (b : Bool) (o : Result Next ℕ). if b then at_end h.notes qs st.counts s else by_step flags h qs st s o) on e
    ∙ ap (λ (k : SampleState U). after_state s (before_takes flags h qs k s2)) (sym es)

pub stuck_here : {A U R S B T : Type 0} (flags : ℕ) (h : Harness A U R S B T) (qs : List A)
    (st : SampleState U) (s : State)
    (byte : ℕ) → st.over ≡ false → next_of flags s ≡ Err byte
    → after_takes flags h qs st s ≡ at_end h.notes qs st.counts s
stuck_here flags h qs st s byte on e =
    ap₂ (λ (b : Bool) (o : Result Next ℕ). if b then at_end h.notes qs st.counts s else by_step flags h qs st s o) on e

pub over_there : {A U R S B T : Type 0} (flags : ℕ) (h : Harness A U R S B T) (qs : List A)
    (st : SampleState U) (s : State)
    → st.over ≡ true → after_takes flags h qs st s ≡ at_end h.notes qs st.counts s
over_there flags h qs st s e =
    ap (λ (b : Bool). if b then at_end h.notes qs st.counts s else by_step flags h qs st s (next_of flags s)) e
