-- A session by its next position.
use Rattle.std.proofs.Common.{◌≡◌, ℕ, zero, suc, ◌+◌, ◌-◌, ◌<◌, ◌≤◌, true, false, List, [], ◌∷◌, ◌++◌, drop, length}
use Rattle.std.proofs.Common.{refl, sym, ap, ap₂, ◌∙◌, arith}
use Rattle.std.proofs.Common.{append_assoc}
use Rattle.std.specs.Prelude.{slice_index}
use Rattle.cpu12_isa.specs.Memory.{bytes_at, from, plus}
use Rattle.cpu12_parts.specs.State.{State}
use Rattle.run_law.specs.Forms.{Form, RowSeen, rows_from}
use Rattle.run_forms.specs.RunRests.{RestHere, at_position, from_here}
use Rattle.run_forms.specs.Positions.{Position, all_numbered, numbered, positions, positions_or}
use Rattle.debug_script.specs.{Going.AreTold, Going.Leads, Going.place_of, Places.distance, Places.on}
use Rattle.debug_script.specs.Showing.{marks_after, no_marks, place_after, shown, shown_from, shown_of, stops}
use Rattle.debug_script.specs.declared.{marks.Marks.Marks, order.Order.Order}
use Rattle.alone_runs.specs.Sessions.{SessionSeen}
use Rattle.debug_script.specs.declared.order.Order.TheVariants as order
use Rattle.debug_script.specs.declared.shown.Shown.{Shown}
use Rattle.debug_script.proofs.PlaceLemmas.{go_more, go_stops, on_more}

-- ---- one position on

-- a session that went on to the next position
abbrev pub GoesOn : SessionSeen → SessionSeen → Type 0
GoesOn old new = old.rest ≡ at_position old.rest.here (from_here new.rest)

-- so it did also, where its bytes are noted there
pub goes_on : (old there new : SessionSeen) → GoesOn old there → new.rest ≡ there.rest → GoesOn old new
goes_on old there new e same =
    e ∙ ap (λ (o : RestHere (RowSeen (List ℕ))). at_position old.rest.here (from_here o)) (sym same)

pub place_more : (old new : SessionSeen) → GoesOn old new → place_of old ≡ old.rest.here ∷ place_of new
place_more old new e = ap (λ (o : RestHere (RowSeen (List ℕ))). o.here ∷ o.later) e

pub stays : (s : SessionSeen) → Leads s s
stays s = record { rows = refl; state = refl }

pub leads_more : (first old new : SessionSeen) → GoesOn old new → Leads first old → Leads first new
leads_more first old new e l = record {
  rows = sym (ap (λ (o : RestHere (RowSeen (List ℕ))). o.rows) e) ∙ l.rows;
  state = sym (ap (λ (o : RestHere (RowSeen (List ℕ))). o.state) e) ∙ l.state;
}

pub step_more : (old new : SessionSeen) (left : ℕ) → GoesOn old new → 0 < left
    → on left (place_of old) ≡ on (left - 1) (place_of new)
step_more old new left e some =
    let n : left ≡ left - 1 + 1 = omega arith in
    ap₂ (λ (k : ℕ) (ps : List Position). on k ps) n (place_more old new e)
    ∙ on_more (left - 1) old.rest.here new.rest.here new.rest.later

-- ---- how far `go` leads

pub stopped_place : (marks : Marks) (old new : SessionSeen) → GoesOn old new
    → stops marks old.rest.here new.rest.here ≡ true
    → on (distance (stops marks) (place_of old)) (place_of old) ≡ place_of new
stopped_place marks old new e is =
    ap (λ (ps : List Position). on (distance (stops marks) ps) ps) (place_more old new e)
    ∙ go_stops (stops marks) old.rest.here new.rest.here new.rest.later is

pub further_place : (marks : Marks) (old new : SessionSeen) → GoesOn old new
    → stops marks old.rest.here new.rest.here ≡ false
    → on (distance (stops marks) (place_of old)) (place_of old) ≡ on (distance (stops marks) (place_of new))
    (place_of new)
further_place marks old new e is =
    ap (λ (ps : List Position). on (distance (stops marks) ps) ps) (place_more old new e)
    ∙ go_more (stops marks) old.rest.here new.rest.here new.rest.later is

-- ---- bytes one after the other

pub byte_more : (mem bytes more all : List ℕ) (at n left : ℕ) → bytes ++ bytes_at mem (from at left) ≡ all
    → left ≡ n + 1 → more ≡ bytes ++ slice_index mem at ∷ [] → more ++ bytes_at mem (from (plus at 1) n) ≡ all
byte_more mem bytes more all at n left so_far one is =
    let next : left ≡ suc n = omega arith in
    ap (λ (l : List ℕ). l ++ bytes_at mem (from (plus at 1) n)) is
    ∙ append_assoc bytes (slice_index mem at ∷ []) (bytes_at mem (from (plus at 1) n))
    ∙ sym (ap (λ (k : ℕ). bytes ++ bytes_at mem (from at k)) next) ∙ so_far

-- ---- samples whose numbers are told

told_drop : (n : ℕ) (ps : List Position) → AreTold ps → AreTold (drop n ps)
told_drop zero ps t = t
told_drop (suc n) [] t = tt
told_drop (suc n) (p ∷ ps) t = told_drop n ps t.1

pub told_on : (n : ℕ) (ps : List Position) → AreTold ps → AreTold (on n ps)
told_on n ps t = told_drop _ ps t

pub told_after : (o : Order) (marks : Marks) (ps : List Position) → AreTold ps → AreTold (place_after o marks ps)
told_after (order.Step n) marks ps t = told_on n ps t
told_after order.Go marks ps t = told_on (distance (stops marks) ps) ps t
told_after (order.Break at) marks ps t = t
told_after (order.Unbreak at) marks ps t = t
told_after (order.Watch at) marks ps t = t
told_after (order.Unwatch at) marks ps t = t
told_after order.Registers marks ps t = t
told_after (order.Memory at n) marks ps t = t

told_numbered : (k m : ℕ) (ws : List State) (ps : List Position) → k ≤ 4294967295 → AreTold ps
    → AreTold (numbered k m ws ++ ps)
told_numbered k m [] ps l t = t
told_numbered k m (w ∷ ws) ps l t = (l, told_numbered k (suc m) ws ps l t)

told_all : (k : ℕ) (wss : List (List State)) → k + length wss ≤ 4294967296 → AreTold (all_numbered k wss)
told_all k [] l = tt
told_all k (ws ∷ wss) l =
    told_numbered k 0 ws (all_numbered (suc k) wss) (omega arith) (told_all (suc k) wss (omega arith))

runs_of_samples : {S A B : Type 0} (f : Form S A B) (most : ℕ) (asks : ℕ → List A) (k : ℕ) (xs : List S) (s : State)
    → length (rows_from f most asks k xs s).states ≡ length xs
unfolding rows_from
runs_of_samples f most asks k [] s = refl
runs_of_samples f most asks k (x ∷ xs) s = ap suc (runs_of_samples f most asks (suc k) xs _)

pub told_positions : {S A B : Type 0} (f : Form S A B) (most : ℕ) (asks : ℕ → List A) (xs : List S) (s : State)
    → length xs ≤ 4294967295 → AreTold (positions s (rows_from f most asks 1 xs s))
told_positions f most asks xs s l =
    let n = runs_of_samples f most asks 1 xs s in
    let few : 1 + length (rows_from f most asks 1 xs s).states ≤ 4294967296 = omega (arith, n) in
    some (all_numbered 1 (rows_from f most asks 1 xs s).states) (told_all 1 (rows_from f most asks 1 xs s).states few)
  where
    some : (ps : List Position) → AreTold ps → AreTold (positions_or s ps)
    some [] t = (omega arith, tt)
    some (p ∷ ps) t = t

-- ---- one order more

pub starts_shown : (marks : Marks) (script : List Order) (place : List Position) (all : List Shown)
    → marks ≡ no_marks → all ≡ []
    → all ++ shown_from marks script place ≡ shown script place
starts_shown marks script place all none nothing =
    ap₂ (λ (k : Marks) (l : List Shown). l ++ shown_from k script place) none nothing

pub order_more : (marks next : Marks) (o : Order) (script orders : List Order) (place there : List Position)
    (before now all : List Shown)
    → before ++ shown_from marks script place ≡ all → script ≡ o ∷ orders → next ≡ marks_after o marks
    → there ≡ place_after o marks place → now ≡ before ++ shown_of o there
    → now ++ shown_from next orders there ≡ all
order_more marks next o script orders place there before now all so_far first m e is =
    let rest = shown_from (marks_after o marks) orders there in
    ap₂ (λ (l : List Shown) (k : Marks). l ++ shown_from k orders there) is m
    ∙ append_assoc before (shown_of o there) rest
    ∙ ap (λ (ps : List Position). before ++ (shown_of o ps ++ shown_from (marks_after o marks) orders ps)) e
    ∙ sym (ap (λ (l : List Order). before ++ shown_from marks l place) first) ∙ so_far
