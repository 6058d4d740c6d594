-- The turns of a mailbox firmware end as they are to, and begin where its code first waits.
use Rattle.std.proofs.Common.{◌≡◌, ◌≢◌, ◌<◌, ◌+◌, ◌∙◌, ◌^◌, ℕ, zero, suc, List, [], ◌∷◌, length, refl, sym, ap, arith}
use Rattle.std.proofs.Common.{subst, inl, inr}
use Rattle.std.proofs.lemmas.Bool.{cases_lt}
use Rattle.std.specs.Prelude.{Bool, ◌&&◌, ◌==◌, false, nat_lt, true, if◌then◌else◌, Result, Ok, Err}
use Rattle.std.proofs.lemmas.Bool.Decides.{nat_tests}
use Rattle.fuzzy_meaning.specs.{Blocks.IsValid, declared.block.Block.Block}
use Rattle.cpu12_parts.specs.{Executions.Execution, State.State}
use Rattle.cpu12_emul.specs.{Image.image_memory, Step.Next, Step.is_part, Step.next_of, Step.reset_with}
use Rattle.firmware_code.specs.declared.firmware.Firmware.{Firmware}
use Rattle.firmware_code.specs.Arrivals.{given}
use Rattle.mailbox_code.specs.{Mailboxes.IsMailboxOf, Turns.IsMaskedStep, Turns.MailboxTakesPosts}
use Rattle.alone_runs.specs.Rows.{bytes_of}
use Rattle.eval_code.specs.declared.memory_map.MemoryMap.{MemoryMap}
use Rattle.mailbox_runs.specs.Answering.{begun, ended}
use Rattle.mailbox_runs.specs.{Runs.arrival, Runs.turn_form, Turns.Turn}
use Rattle.mailbox_runs.specs.UninterruptedTurns.{AllTurnRuns, IsAnswerRun, IsTurnRun}
use Rattle.rule_layout.specs.Layouts.{IsWithinLimits}
use Rattle.run_forms.specs.Arrival.{PlainIsOneStep}
use Rattle.run_law.specs.Forms.{Form, Ran, before_rest, ended as at_end, run_from, takes, then_rest}
use Rattle.run_law.specs.Uninterrupted.{state_by, stepped, uninterrupted}
use Rattle.promise.specs.{Bench.EndsAfter, Bench.IsFirstAtLoop, Bench.loop, Turns.TurnsEnd}

-- ---- a run of no requests

-- it is the run without interrupts up to its end
record Alone {S A B : Type 0} (f : Form S A B) (m : ℕ) (s : State) (r : Ran A B) : Type 0 where
  state : r.state ≡ uninterrupted f.flags r.steps s
  before : (j : ℕ) → j < r.steps → f.ends (m + j) (uninterrupted f.flags j s) ≡ false
  there : f.ends (m + r.steps) (uninterrupted f.flags r.steps s) ≡ true

module _ {S A B : Type 0} (f : Form S A B) where
  here : (m : ℕ) (s : State) → f.ends m s ≡ true → Alone f m s (at_end true [] s)
  here m s is = record {
    state = refl;
    before = λ j lt. absurd (omega (arith, lt));
    there = subst (λ k. f.ends k s ≡ true) (omega arith) is;
  }

  put : (m : ℕ) (inside : Bool) (s : State) (next : Next) (r : Ran A B) → f.ends m s ≡ false
      → next_of f.flags s ≡ Ok next → Alone f (suc m) next.state r
      → Alone f m s (before_rest inside (takes f m [] s) next.kind r)
  unfolding takes
  put m inside s next r on goes a =
      let goes_on : stepped f.flags s ≡ next.state = ap (state_by s) goes in
      record {
        state = a.state ∙ ap (uninterrupted f.flags r.steps) (sym goes_on);
        before = before goes_on;
        there = subst (λ k. f.ends k (uninterrupted f.flags r.steps (stepped f.flags s)) ≡ true) (omega arith)
            (subst (λ u. f.ends (suc m + r.steps) (uninterrupted f.flags r.steps u) ≡ true) (sym goes_on) a.there);
      }
    where
      before : stepped f.flags s ≡ next.state → (j : ℕ) → j < suc r.steps
          → f.ends (m + j) (uninterrupted f.flags j s) ≡ false
      before goes_on zero lt = subst (λ k. f.ends k s ≡ false) (omega arith) on
      before goes_on (suc j) lt =
          subst (λ k. f.ends k (uninterrupted f.flags j (stepped f.flags s)) ≡ false) (omega arith)
          (subst (λ u. f.ends (suc m + j) (uninterrupted f.flags j u) ≡ false) (sym goes_on)
          (a.before j (omega (arith, lt))))

  module _ (m : ℕ) (inside : Bool) (s : State) (rest : Bool → State → Ran A B)
      (later : (i : Bool) (t : State) → (rest i t).arrived ≡ true → Alone f (suc m) t (rest i t)) where
    step : (o : Result Next ℕ) → f.ends m s ≡ false → next_of f.flags s ≡ o
        → (then_rest inside (takes f m [] s) rest o).arrived ≡ true
        → Alone f m s (then_rest inside (takes f m [] s) rest o)
    step (Ok next) on goes arrived =
        put m inside s next (rest (is_part next.kind) next.state) on goes (later (is_part next.kind) next.state arrived)
    step (Err byte) on goes arrived = absurd (let e : false ≡ true = arrived in cc)

    abbrev turn : Bool → Ran A B
    turn e = if e then at_end true [] s else then_rest inside (takes f m [] s) rest (next_of f.flags s)

    either : (e : Bool) → f.ends m s ≡ e → (turn e).arrived ≡ true → Alone f m s (turn e)
    either true is arrived = here m s is
    either false is arrived = step (next_of f.flags s) is refl arrived

  alone : (n m : ℕ) (inside : Bool) (s : State) → (run_from f n m inside [] s).arrived ≡ true
      → Alone f m s (run_from f n m inside [] s)
  unfolding run_from takes
  alone zero m inside s arrived =
      subst (λ (e : Bool). Alone f m s (at_end e [] s)) (sym arrived) (here m s arrived)
  alone (suc n) m inside s arrived =
      either m inside s (λ i t. run_from f n (suc m) i [] t) (λ i t. alone n (suc m) i t) (f.ends m s) refl arrived

-- ---- the first arrival

at_wait : (m pc wait : ℕ) → (nat_lt 0 m && (pc == wait)) ≡ true → pc ≡ wait
at_wait m pc wait is = grind (arith, nat_tests)

away_from : (m : ℕ) → 0 < m → (pc wait : ℕ) → (nat_lt 0 m && (pc == wait)) ≡ false → pc ≢ wait
away_from m more pc wait is same = grind (arith, nat_tests)

pub waits : MailboxTakesPosts → (b : Block) (f : Firmware) (samples : List (List ℕ)) (flags : ℕ) → IsValid b
    → IsWithinLimits b → IsMailboxOf b f → flags < 2 ^ 8 → (arrival f samples flags).arrived ≡ true
    → IsFirstAtLoop flags f.image (arrival f samples flags).state
waits takes_posts b f samples flags valid limits mailbox byte arrived =
    let start = reset_with (image_memory f.image.bytes) in
    let r = arrival f samples flags in
    let a = alone (turn_form flags f samples 0) f.step_bound 0 false start arrived in
    let wait : f.memory_map.wait ≡ loop = ap (λ (m : MemoryMap). m.wait) mailbox.memory_map in
    let ready = (takes_posts b f valid limits mailbox flags byte).arrives.1 in
    record {
      steps = r.steps;
      state = a.state;
      there = ap (λ (s : State). s.regs.pc) a.state ∙ at_wait (0 + r.steps) _ f.memory_map.wait a.there ∙ wait;
      before = away wait ready.execution.1.0 a.before;
    }
  where
    away : f.memory_map.wait ≡ loop → (reset_with (image_memory f.image.bytes)).regs.pc ≢ f.memory_map.wait
        → ((j : ℕ) → j < (arrival f samples flags).steps → (turn_form flags f samples 0).ends (0 + j)
        (uninterrupted flags j (reset_with (image_memory f.image.bytes))) ≡ false)
        → (j : ℕ) → j < (arrival f samples flags).steps
        → (uninterrupted flags j (reset_with (image_memory f.image.bytes))).regs.pc ≢ loop
    away wait first on zero lt is = first (is ∙ sym wait)
    away wait first on (suc j) lt is =
        away_from (0 + suc j) (omega arith) _ f.memory_map.wait (on (suc j) lt) (is ∙ sym wait)

-- ---- the end of a turn

busy : (j pc wait : ℕ) → pc ≢ wait → (nat_lt 0 j && (pc == wait)) ≡ false
busy j pc wait away = grind (arith, nat_tests)

waiting : (n pc wait : ℕ) → n ≢ 0 → pc ≡ wait → (nat_lt 0 n && (pc == wait)) ≡ true
waiting n pc wait some is = grind (arith, nat_tests)

ahead : (k pc wait : ℕ) → 0 < k → pc ≡ wait + k → pc ≢ wait
ahead k pc wait more is same = omega (arith, more, is, same)

module _ (one : PlainIsOneStep) (flags : ℕ) (f : Firmware) where
  -- no copy stands where the code waits
  copies : (image ds : List ℕ) (s t : State) → Execution (IsMaskedStep f.memory_map image flags) ds s t
      → (i : ℕ) → i < length ds → (uninterrupted flags i s).regs.pc ≢ f.memory_map.wait
  copies image [] s t e i lt = absurd (omega (arith, lt))
  copies image (d ∷ ds) s t e zero lt = e.1.0.away
  copies image (d ∷ ds) s t e (suc i) lt =
      let step = e.1.0 in
      let goes : stepped flags s ≡ e.0 =
      ap (state_by s) (one flags step.instruction s e.0 step.steady.temps step.shown.step) in
      subst (λ (u : State). (uninterrupted flags i u).regs.pc ≢ f.memory_map.wait) (sym goes)
      (copies image ds e.0 t e.1.1 i (omega (arith, lt)))

  -- nor does any state of a turn that answers, behind the first
  answering : (n : ℕ) (s : State) → IsAnswerRun f flags n s → (j : ℕ) → 0 < j → j < n
      → (uninterrupted flags j s).regs.pc ≢ f.memory_map.wait
  answering n s r zero more lt = absurd (omega (arith, more))
  answering n s r (suc zero) more lt = ahead 3 _ f.memory_map.wait (omega arith) (ap (λ (u : State). u.regs.pc) r.first ∙ r.look.at.pc)
  answering n s r (suc (suc zero)) more lt = ahead 5 _ f.memory_map.wait (omega arith) (ap (λ (u : State). u.regs.pc) r.second ∙ r.on.pc)
  answering n s r (suc (suc (suc i))) more lt = elim (cases_lt i (f.inputs + 2)) [
    | inl copying ↦ subst (λ (u : State). (uninterrupted flags i u).regs.pc ≢ f.memory_map.wait) (sym r.third)
        (copies _ r.copy.ds r.copy.masked r.called r.copy.copies i (omega (arith, copying, r.copy.count)))
    | inr behind ↦ r.away (suc (suc (suc i))) (omega (arith, behind)) lt
  ]

  turn_ends : (samples : List (List ℕ)) (t : Turn) (s : State) → IsTurnRun f flags samples t s → t.steps ≢ 0
      → EndsAfter (turn_form flags f samples 0) t.steps (begun f samples t s)
  turn_ends samples t s r some = record {
    before = below;
    there = waiting t.steps _ f.memory_map.wait some r.at_end.pc;
  }
    where
      state : ℕ → State
      state j = uninterrupted flags j (begun f samples t s)

      begins : Bool → State
      begins none = if none then s else given f.memory_map (bytes_of samples t.sample) s

      by : (none : Bool) → (t.sample == 0) ≡ none → (j : ℕ) → 0 < j → j < t.steps
          → (state j).regs.pc ≢ f.memory_map.wait
      by true is j more lt = elim (r.rests (grind (arith, nat_tests))) [
        | inl none ↦ absurd (some none)
        | inr idle ↦ (let first : j ≡ 1 = omega (arith, more, lt, idle.0) in
            subst (λ (m : ℕ). (state m).regs.pc ≢ f.memory_map.wait) (sym first)
            (subst (λ (u : State). (uninterrupted flags 1 u).regs.pc ≢ f.memory_map.wait) (sym (ap begins is))
            (ahead 3 _ f.memory_map.wait (omega arith) (ap (λ (u : State). u.regs.pc) idle.1.first ∙ idle.1.look.at.pc))))
      ]
      by false is j more lt =
          subst (λ (u : State). (uninterrupted flags j u).regs.pc ≢ f.memory_map.wait) (sym (ap begins is))
          (answering t.steps _ (r.answers (λ same. grind (arith, nat_tests))) j more lt)

      below : (j : ℕ) → j < t.steps → (nat_lt 0 j && ((state j).regs.pc == f.memory_map.wait)) ≡ false
      below zero lt = refl
      below (suc j) lt = busy (suc j) _ f.memory_map.wait (by (t.sample == 0) refl (suc j) (omega arith) lt)

  pub turns_end : (samples : List (List ℕ)) (ts : List Turn) (s : State) → AllTurnRuns f flags samples ts s
      → TurnsEnd flags f samples ts s
  turns_end samples [] s runs = tt
  turns_end samples (t ∷ ts) s runs =
      (turn_ends samples t s runs.0, turns_end samples ts (ended flags f samples t s) runs.1)
