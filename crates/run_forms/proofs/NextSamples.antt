-- The next sample of a run under way: its requests, its room, and what the run has to give from its first boundary.
use Rattle.std.proofs.Common.{◌≡◌, ◌≤◌, ◌<◌, ℕ, false, ◌+◌, ◌-◌, ◌^◌, List, ◌∷◌, length, length-drop, take, drop, map}
use Rattle.std.proofs.Common.{ap, ap₂, sym, ◌∙◌, subst, vec_len, vec_capacity, arith}
use Rattle.std.specs.Prelude.{Some, slice_get}
use Rattle.cpu12_parts.specs.State.{State}
use Rattle.run_law.specs.Forms.{Form, run_from}
use Rattle.run_forms.specs.declared.{boundary.SampleState.SampleState}
use Rattle.run_forms.specs.declared.{sample.Counts.Counts, run_state.RunState.RunState}
use Rattle.run_forms.specs.{Forms.plan_form, Forms.Harness, Rest.counted_at, Rest.shown_by}
use Rattle.run_forms.specs.Slices.{Follow, requests_first, HasRoom, HaveRoom}
use Rattle.run_forms.specs.SampleRests.{Arrives, before_takes, after_takes, IsSteady}
use Rattle.run_forms.specs.RunRests.{from_here, rest_before, sample_at, with_row, rest_here, rows_here, state_here}
use Rattle.run_forms.specs.RunRests.{IsUnderWay}
use Rattle.run_forms.proofs.PlanSlices.{room_first, slice_first, count_there, few_there, rest_further, first_few}
use Rattle.run_forms.proofs.PlanSlices.{later_follow}
use Rattle.run_forms.proofs.RunRests.{rest_of_ran, fresh, fresh_rest, given_rest, given_room, is_there, sample_next}
use Rattle.run_forms.proofs.RunRests.{states_here}

-- its requests, of the plan that is left
abbrev pub next_requests : {A U R S B T : Type 0} → Harness A U R S B T → List A → RunState U R → List A
next_requests h plan p = requests_first h.parts.place (p.number + 1) (drop p.behind plan)

-- A run under way has one more sample: its room stands before these, it has n requests, and its run begins so.
pub record HasNext {A U R S B T : Type 0} (fits : U → ℕ → Type 0) (h : Harness A U R S B T) (plan : List A)
    (p : RunState U R) (n : ℕ)
    (room : U) (rooms : List U) (st : SampleState U) : Type 0 where
  pub under_way : IsUnderWay fits h plan p
  pub more : p.number < length h.samples
  pub items : p.rooms.items ≡ room ∷ rooms
  pub count : n ≡ length
      (requests_first h.parts.place (p.number + 1) (take (length plan - p.behind) (drop p.behind plan)))
  pub counts : st.counts ≡ fresh room
  pub left : st.left ≡ p.most

-- run p with its next sample, of n requests, and with the sample's state, the rooms and the rows of q
abbrev pub with_next : {U R : Type 0} → ℕ → RunState U R → RunState U R → RunState U R
with_next n p q = record q {
  most = p.most;
  number = p.number + 1;
  first = p.behind;
  behind = p.behind + n;
}

-- n requests of a plan from one on
abbrev pub requests_from : {A : Type 0} → List A → ℕ → ℕ → List A
requests_from plan first n = take (first + n - first) (drop first plan)

module _ {A U R S B T : Type 0} {fits : U → ℕ → Type 0} {h : Harness A U R S B T} {plan : List A} {p : RunState U R}
    {n : ℕ} {room : U}
    {rooms : List U} {st : SampleState U} (next : HasNext fits h plan p n room rooms st) where
  counted : n ≡ length (next_requests h plan p)
  counted = count_there h.parts.place (p.number + 1) p.behind n plan next.count

  -- its room, and those behind it for the samples behind it
  next_rooms : HasRoom fits h.notes (next_requests h plan p) room
      × HaveRoom fits h.notes h.parts.place (p.number + 1 + 1) (length h.samples - p.number - 1)
      (drop (length (next_requests h plan p)) (drop p.behind plan)) rooms
  next_rooms =
      let more = next.more in
      let k = p.number + 1 in
      let left = length h.samples - p.number in
      let rest : List A = drop p.behind plan in
      room_first fits h.notes h.parts.place k left rest room rooms (omega (arith, more))
      (subst (λ (l : List U). HaveRoom fits h.notes h.parts.place k left rest l) next.items next.under_way.rooms)

  later_rooms : HaveRoom fits h.notes h.parts.place (p.number + 1 + 1) (length h.samples - (p.number + 1))
      (drop (p.behind + n) plan) rooms
  later_rooms =
      let k = p.number + 1 in
      let place = h.parts.place in
      let further = rest_further place k p.behind n plan counted in
      let fewer : length h.samples - p.number - 1 ≡ length h.samples - k = omega arith in
      subst (λ (l : List A). HaveRoom fits h.notes place (k + 1) (length h.samples - k) l rooms) (sym further)
      (subst (λ (j : ℕ). HaveRoom fits h.notes place (k + 1) j
      (drop (length (next_requests h plan p)) (drop p.behind plan)) rooms)
      fewer next_rooms.1)

  -- what is left of its room before its first boundary
  next_room : fits st.counts.notes (length (requests_from plan p.behind n) - st.counts.next)
  next_room =
      given_room fits h.notes (requests_from plan p.behind n) (next_requests h plan p) room st.counts
      next.counts next_rooms.0
      (slice_first h.parts.place (p.number + 1) p.behind n (drop p.behind plan) counted)
      (few_there plan p.behind (p.behind + n - p.behind) next.under_way.few)

  pub next_arrives : st.over ≡ false → st.counts.moment + st.left < 2 ^ 32
      → Arrives fits (requests_from plan p.behind n) st
  next_arrives on sum =
      let first : st.counts.next ≡ 0 = ap (λ (t : Counts U). t.next) next.counts in
      let instrs : st.counts.instrs ≡ 0 = ap (λ (t : Counts U). t.instrs) next.counts in
      let resumed : st.counts.resumed ≡ 0 = ap (λ (t : Counts U). t.resumed) next.counts in
      record {
        on = (on, ap (λ (t : Counts U). t.arrived) next.counts);
        next = omega (arith, first);
        room = next_room;
        counts = (omega (arith, instrs), omega (arith, resumed));
        sum = sum;
      }

  -- at its first boundary the run is under way, with one row more
  pub under_way_next : (q : RunState U R) → q.rooms.items ≡ rooms → vec_len q.rows ≡ p.number
      → vec_capacity p.rows ≤ vec_capacity q.rows → IsSteady fits (requests_from plan p.behind n) q.sample
      → IsUnderWay fits h plan (with_next n p q)
  under_way_next q rooms_are len room_kept steady =
      let w = next.under_way in
      let more = next.more in
      let k = p.number + 1 in
      let place = h.parts.place in
      let rest : List A = drop p.behind plan in
      let further = rest_further place k p.behind n plan counted in
      record {
        few = w.few;
        number = omega (arith, more);
        first = omega arith;
        behind = (let few = first_few place k rest in let left = length-drop p.behind plan in let inv = w.behind in
            let count = counted in omega (arith, few, left, inv, count));
        follow = subst (λ (l : List A). Follow place (k + 1) l) (sym further) (later_follow place k rest w.follow);
        rooms = subst (λ (l : List U). HaveRoom fits h.notes place (k + 1) (length h.samples - k)
            (drop (p.behind + n) plan) l) (sym rooms_are) later_rooms;
        rows = omega (arith, len);
        room = (let inv = w.room in omega (arith, room_kept, inv));
        sample = steady;
      }

  -- the rest there is the rest before, where the sample before was at an end
  pub given_next : (flags i j : ℕ) (q : RunState U R) (old : SampleState U) (s past given t : State) → old ≡ p.sample
      → i ≡ j → j ≡ flags
      → map h.seen q.rows.items ≡ with_row (map h.seen p.rows.items)
      (shown_by h.shows h.parts.answers (counted_at h.notes old.counts s)) (sample_at p.number h.samples)
      → past ≡ state_here h p s → ((x : S) → slice_get h.samples p.number ≡ Some x → given ≡ h.parts.give x past)
      → after_takes i h (requests_from plan p.behind n) q.sample t
      ≡ before_takes i h (requests_from plan p.behind n) st given
      → q.sample.counts.moment ≡ st.counts.moment
      → from_here (rest_here flags h plan (with_next n p q) t)
      ≡ rest_before flags h p.most (p.number + 1) (drop p.behind plan) (drop p.number h.samples) (rows_here h p s)
      (state_here h p s)
  given_next flags i j q old s past given t was eij ej erow epast egiven came moment =
      let form : Form S A B = plan_form flags h.parts in
      let place = h.parts.place in
      let k = p.number + 1 in
      let rest : List A = drop p.behind plan in
      let qs : List A = requests_from plan p.behind n in
      let seen : List T = map h.seen q.rows.items in
      let st2 : SampleState U = q.sample in
      let y = is_there h.samples p.number next.more in
      let empty = next_rooms.0 in
      let comes : after_takes flags h qs st2 t ≡ rest_of_ran
      (run_from form p.most 0 false qs (form.give y.sample past)) =
      subst (λ (l : ℕ). after_takes l h qs st2 t ≡ before_takes l h qs st given) (eij ∙ ej) came
      ∙ fresh_rest flags h p.most qs room st given next.counts next.left empty.no_frames empty.none_told
      ∙ ap (λ (u : State). rest_of_ran (run_from form p.most 0 false qs u)) (egiven y.sample y.at) in
      let begins : st2.counts.moment ≡ 0 = moment ∙ ap (λ (t : Counts U). t.moment) next.counts in
      let rows_are : seen ≡ rows_here h p s =
      erow ∙ ap (λ (st : SampleState U). with_row (map h.seen p.rows.items)
      (shown_by h.shows h.parts.answers (counted_at h.notes st.counts s)) (sample_at p.number h.samples)) was in
      given_rest flags h p.most p.number st2.counts.moment rest (drop (p.behind + n) plan) qs
      (sample_at k h.samples) y.sample (drop k h.samples) seen past t (after_takes flags h qs st2 t)
      next.under_way.follow (slice_first place k p.behind n rest counted)
      (rest_further place k p.behind n plan counted) comes (states_here flags h qs st2 t) begins
      (sample_next p.number h.samples ∙ y.at)
      ∙ ap (λ (l : List S). rest_before flags h p.most k rest l seen past) (sym y.rest)
      ∙ ap₂ (λ (rs : List T) (u : State). rest_before flags h p.most k rest (drop p.number h.samples)
      rs u) rows_are epast
