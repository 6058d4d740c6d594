-- Turns without posts: the run of a turn is that without interrupts.
use Rattle.mailbox_runs.proofs.Words.{[], ◌&&◌, ◌∙◌, ◌≡◌, ◌≤◌, ap, arith, Before, before_rest, Bool, false, Firmware}
use Rattle.mailbox_runs.proofs.Words.{is_part, is_waiting, List, nat_lt, nat_tests, Next, next_of, Ok, Post, Ran}
use Rattle.mailbox_runs.proofs.Words.{refl, run_from, State, state_by, subst, suc, sym, takes, Taking, true}
use Rattle.mailbox_runs.proofs.Words.{turn_form, uninterrupted, zero, ℕ}
use Rattle.run_law.specs.{Forms.ended}
use Rattle.mailbox_runs.proofs.WholeTurns.{IsBusy}

-- a run is the one without interrupts, and ends behind n steps
pub record IsAlone (flags n : ℕ) (s : State) (r : Ran Post (Unit {0})) : Type 0 where
  pub arrived : r.arrived ≡ true
  pub steps : r.steps ≡ n
  pub state : r.state ≡ uninterrupted flags n s

none : State → Taking Post (Unit {0})
none s = record { state = s; frames = []; told = []; left = [] }

-- a step more
one_more : (flags : ℕ) (f : Firmware) (samples : List (List ℕ)) (most m : ℕ) (inside : Bool) (s : State) (next : Next)
    → (nat_lt 0 m && is_waiting f.memory_map s) ≡ false → next_of flags s ≡ Ok next
    → run_from (turn_form flags f samples 0) (suc most) m inside [] s
    ≡ before_rest inside (none s) next.kind
    (run_from (turn_form flags f samples 0) most (suc m) (is_part next.kind) [] next.state)
unfolding run_from takes none
one_more flags f samples most m inside s next on goes = rw (on, goes) refl

-- none more
no_more : (flags : ℕ) (f : Firmware) (samples : List (List ℕ)) (most m : ℕ) (inside : Bool) (s : State)
    → (nat_lt 0 m && is_waiting f.memory_map s) ≡ true
    → run_from (turn_form flags f samples 0) most m inside [] s ≡ ended true [] s
unfolding run_from
no_more flags f samples zero m inside s off = rw off refl
no_more flags f samples (suc most) m inside s off = rw off refl

is_waiting_there : (m : ℕ) (f : Firmware) (s : State) → s.regs.pc ≡ f.memory_map.wait
    → (nat_lt 0 (suc m) && is_waiting f.memory_map s) ≡ true
is_waiting_there m f s e = grind (arith, nat_tests)

is_waiting_nowhere : (m : ℕ) (f : Firmware) (s : State) → (s.regs.pc ≡ f.memory_map.wait → ⊥)
    → (nat_lt 0 (suc m) && is_waiting f.memory_map s) ≡ false
is_waiting_nowhere m f s e = grind (arith, nat_tests)

-- one step before the rest
put_step : (flags n : ℕ) (inside : Bool) (s : State) (next : Next) (r : Ran Post (Unit {0})) → next_of flags s ≡ Ok next
    → IsAlone flags n next.state r
    → IsAlone flags (suc n) s (before_rest inside (none s) next.kind r)
unfolding none
put_step flags n inside s next r goes h = record {
  arrived = h.arrived;
  steps = ap suc h.steps;
  state = h.state ∙ ap (uninterrupted flags n) (sym (ap (state_by s) goes));
}

later : (flags : ℕ) (f : Firmware) (samples : List (List ℕ)) (n most m : ℕ) (inside : Bool) (s : State) → n ≤ most
    → Before (IsBusy f.memory_map flags) flags n s → (uninterrupted flags n s).regs.pc ≡ f.memory_map.wait
    → IsAlone flags n s (run_from (turn_form flags f samples 0) most (suc m) inside [] s)
later flags f samples zero most m inside s le b at =
    let r : Ran Post (Unit {0}) = ended true [] s in
    subst (IsAlone flags 0 s) (sym (no_more flags f samples most (suc m) inside s (is_waiting_there m f s at)))
    (let done : IsAlone flags 0 s r = record { arrived = refl; steps = refl; state = refl } in done)
later flags f samples (suc n) zero m inside s le b at = absurd (omega arith)
later flags f samples (suc n) (suc most) m inside s le b at =
    let one = b 0 (omega arith) in
    let next : Next = one.next in
    let there = ap (state_by s) one.goes in
    let r = later flags f samples n most (suc m) (is_part next.kind) next.state (omega arith)
    (subst (Before (IsBusy f.memory_map flags) flags n) there (λ j i. b (suc j) (omega arith)))
    (ap (λ (u : State). (uninterrupted flags n u).regs.pc) (sym there) ∙ at) in
    subst (IsAlone flags (suc n) s)
    (sym (one_more flags f samples most (suc m) inside s next (is_waiting_nowhere m f s one.away) one.goes))
    (put_step flags n inside s next
    (run_from (turn_form flags f samples 0) most (suc (suc m)) (is_part next.kind) [] next.state) one.goes r)

-- a turn from its first step on
pub alone : (flags : ℕ) (f : Firmware) (samples : List (List ℕ)) (n most : ℕ) (s : State) (next : Next) → suc n ≤ most
    → next_of flags s ≡ Ok next
    → Before (IsBusy f.memory_map flags) flags n next.state → (uninterrupted flags n next.state).regs.pc
    ≡ f.memory_map.wait
    → IsAlone flags (suc n) s (run_from (turn_form flags f samples 0) most 0 false [] s)
alone flags f samples n zero s next le goes b at = absurd (omega arith)
alone flags f samples n (suc most) s next le goes b at =
    subst (IsAlone flags (suc n) s) (sym (one_more flags f samples most 0 false s next refl goes))
    (put_step flags n false s next
    (run_from (turn_form flags f samples 0) most 1 (is_part next.kind) [] next.state) goes
    (later flags f samples n most 0 (is_part next.kind) next.state (omega arith) b at))

-- states with the same first step have the same turn
pub same_alone : (flags : ℕ) (f : Firmware) (samples : List (List ℕ)) (most : ℕ) (s u : State) (next : Next) → 1 ≤ most
    → next_of flags s ≡ Ok next
    → next_of flags u ≡ Ok next
    → (let r = run_from (turn_form flags f samples 0) most 0 false [] s in
    let q = run_from (turn_form flags f samples 0) most 0 false [] u in
    (r.steps ≡ q.steps) × (r.state ≡ q.state))
unfolding none
same_alone flags f samples zero s u next le goes goes' = absurd (omega arith)
same_alone flags f samples (suc most) s u next le goes goes' =
    let a = one_more flags f samples most 0 false s next refl goes in
    let b = one_more flags f samples most 0 false u next refl goes' in (
      ap (λ (r : Ran Post (Unit {0})). r.steps) a ∙ sym (ap (λ (r : Ran Post (Unit {0})). r.steps) b),
      ap (λ (r : Ran Post (Unit {0})). r.state) a ∙ sym (ap (λ (r : Ran Post (Unit {0})). r.state) b),
    )
