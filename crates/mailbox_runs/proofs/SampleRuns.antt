-- The turn of a sample by its steps.
use Rattle.mailbox_runs.proofs.Words.{[], ◌++◌, ◌+◌, ◌-◌, ◌<◌, ◌^◌, ◌∙◌, ◌∷◌, ◌≡◌, ◌≢◌, ◌≤◌, all_steps, ap, AreSteps}
use Rattle.mailbox_runs.proofs.Words.{arith, Before, Beq, Block, Firmware, Free, given, image_memory}
use Rattle.mailbox_runs.proofs.Words.{InstructionsAreSteps, is_idle, is_postable, IsAnswerRun, IsAt, IsChoice, IsLook}
use Rattle.mailbox_runs.proofs.Words.{IsMailboxOf, IsServing, IsUntil, LdaaExtended, length, List, MemoryMap, next_of}
use Rattle.mailbox_runs.proofs.Words.{Ok, Orcc, Plain, PlainIsOneStep, State, state_by, steps_by, subst, suc, sym}
use Rattle.mailbox_runs.proofs.Words.{true, uninterrupted, uninterrupted_add, ℕ}
use Rattle.mailbox_code.specs.{SampleTurns.IsSampleTurn, Turns.IsCopied, Turns.call_of}
use Rattle.cpu12_parts.proofs.Algebra.{steps_append}
use Rattle.mailbox_runs.proofs.WholeTurns.{IsBusy, one_step, steps_on, masked_steps, masked_count}
use Rattle.mailbox_runs.proofs.Serving.{IsServed, served, busy_by, facts_by}

-- a plain step of an instruction, on the way
stepping : (l : MemoryMap) (image : List ℕ) (flags at : ℕ) (s t : State) → IsAt image at s → at ≢ l.wait
    → next_of flags s ≡ Ok (record { state = t; kind = Plain }) → AreSteps (IsBusy l flags) flags (0 ∷ []) s t
stepping l image flags at s t here far next =
    one_step (IsBusy l flags) flags s t
    (record { next = record { state = t; kind = Plain }; goes = next; away = λ e. far (sym here.pc ∙ e) }) next

-- Up to the call, with n inputs.
record Calls (f : Firmware) (flags n : ℕ) (g looked chosen called : State)
    (copy : IsCopied f.memory_map n (image_memory f.image.bytes) flags chosen called)
    : Type 0 where
  next : next_of flags g ≡ Ok (record { state = looked; kind = Plain })
  look : IsLook f.memory_map (image_memory f.image.bytes) flags g looked
  choice : IsChoice f.memory_map (image_memory f.image.bytes) flags looked chosen
  on : IsAt (image_memory f.image.bytes) (f.memory_map.wait + 5) chosen
  second : uninterrupted flags 2 g ≡ chosen
  third : uninterrupted flags 3 g ≡ copy.masked
  call : uninterrupted flags (n + 5) g ≡ called
  steps : AreSteps (IsBusy f.memory_map flags) flags (0 ∷ 0 ∷ copy.ds) looked called
  count : all_steps copy.ds ≡ n + 2

calls : PlainIsOneStep → (f : Firmware) (flags n : ℕ) (g looked chosen called : State) → g.temps ≡ Free
    → IsLook f.memory_map (image_memory f.image.bytes) flags g looked
    → IsChoice f.memory_map (image_memory f.image.bytes) flags looked chosen
    → IsAt (image_memory f.image.bytes) (f.memory_map.wait + 5) chosen
    → (copy : IsCopied f.memory_map n (image_memory f.image.bytes) flags chosen called)
    → Calls f flags n g looked chosen called copy
calls law f flags n g looked chosen called free look choice on copy =
    let l = f.memory_map in
    let image = image_memory f.image.bytes in
    let P = IsBusy l flags in
    let look_at = look.at in
    let state1 = look_at.steady in
    let state2 = on.steady in
    let next = law flags (LdaaExtended l.sample_flag) g looked free (let shown = look.step in shown.step) in
    let next2 = law flags (Beq 0xFB) looked chosen state1.temps (let shown = choice.step in shown.step) in
    let masked = copy.masked in
    let next3 = law flags (Orcc 0x10) chosen masked state2.temps (let shown = copy.sets in shown.step) in
    let first : uninterrupted flags 1 g ≡ looked = ap (state_by g) next in
    let second : uninterrupted flags 2 g ≡ chosen = ap (uninterrupted flags 1) first ∙ ap (state_by looked) next2 in
    let third : uninterrupted flags 3 g ≡ masked = ap (uninterrupted flags 1) second ∙ ap (state_by chosen) next3 in
    let copies = masked_steps law l image flags copy.ds masked called copy.copies in
    let count : all_steps copy.ds ≡ n + 2 = masked_count l image flags copy.ds masked called copy.copies ∙ copy.count in
    let sum : n + 5 ≡ 3 + all_steps copy.ds = omega (arith, count) in
    record {
      next = next;
      look = look;
      choice = choice;
      on = on;
      second = second;
      third = third;
      call = ap (λ (k : ℕ). uninterrupted flags k g) sum ∙ uninterrupted_add flags 3 (all_steps copy.ds) g
          ∙ ap (uninterrupted flags (all_steps copy.ds)) third ∙ copies.goes;
      steps = steps_on P flags (0 ∷ []) (0 ∷ copy.ds) looked chosen called
          (stepping l image flags (l.wait + 3) looked chosen look_at (λ e. omega (arith, e)) next2)
          (steps_on P flags (0 ∷ []) copy.ds chosen masked called
          (stepping l image flags (l.wait + 5) chosen masked on (λ e. omega (arith, e)) next3) copies);
      count = count;
    }

-- A turn by its steps: the look, and those on the way.
pub record IsSampleRun (f : Firmware) (flags : ℕ) (g looked t : State) : Type 0 where
  pub ds : List ℕ
  pub next : next_of flags g ≡ Ok (record { state = looked; kind = Plain })
  pub steps : AreSteps (IsBusy f.memory_map flags) flags ds looked t
  pub run : IsAnswerRun f flags (suc (all_steps ds)) g
  pub until : IsUntil (is_idle f.memory_map) flags (0 ∷ ds) g t

-- the steps behind the call
served_steps : (f : Firmware) (flags : ℕ) (ds : List ℕ) (s t : State)
    → AreSteps (IsServing is_postable f.memory_map (image_memory f.image.bytes) flags) flags ds s t
    → Before (IsServed f flags) flags (all_steps ds) s → AreSteps (IsBusy f.memory_map flags) flags ds s t
served_steps f flags ds s t a b = record {
  goes = a.goes;
  counts = a.counts;
  each = λ j l. busy_by f flags (uninterrupted flags j s) (b j l);
}

-- there are some
some_steps : (f : Firmware) (flags n : ℕ) (ds : List ℕ) (s t : State) → AreSteps (IsBusy f.memory_map flags) flags ds s
    t
    → s.regs.pc ≡ call_of f.memory_map n
    → t.regs.pc ≡ f.memory_map.wait → 1 ≤ all_steps ds
some_steps f flags n [] s t a at back =
    absurd (let e : s.regs.pc ≡ t.regs.pc = ap (λ (u : State). u.regs.pc) a.goes in omega (arith, e, at, back))
some_steps f flags n (d ∷ ds) s t a at back = omega arith

-- what holds at a boundary behind the call
at_boundary : (P : State → Type 0) (flags m n j : ℕ) (g s : State) → uninterrupted flags m g ≡ s → Before P flags n s
    → m ≤ j → j < m + n
    → P (uninterrupted flags j g)
at_boundary P flags m n j g s e b from to =
    let k = j - m in
    let sum : j ≡ m + k = omega arith in
    let is : uninterrupted flags j g ≡ uninterrupted flags k s = ap (λ (i : ℕ). uninterrupted flags i g) sum
    ∙ uninterrupted_add flags m k g ∙ ap (uninterrupted flags k) e in
    subst P (sym is) (b k (omega arith))

-- what a turn of n inputs and m steps behind the call gives
answer_run : (f : Firmware) (flags n m : ℕ) (g looked chosen called : State) → f.inputs ≡ n
    → (copy : IsCopied f.memory_map n (image_memory f.image.bytes) flags chosen called)
    → Calls f flags n g looked chosen called copy → 1 ≤ m
    → n + 5 + m ≤ f.step_bound → Before (IsServed f flags) flags m called → IsAnswerRun f flags (n + 5 + m) g
answer_run f flags n m g looked chosen called e = subst by e
    (λ copy c some within b. record {
      looked = looked;
      chosen = chosen;
      called = called;
      look = c.look;
      choice = c.choice;
      on = c.on;
      copy = copy;
      first = ap (state_by g) c.next;
      second = c.second;
      third = c.third;
      call = c.call;
      behind = omega (arith, some);
      within = within;
      facts = λ j from to. facts_by f flags (uninterrupted flags j g)
          (at_boundary (IsServed f flags) flags (f.inputs + 5) m j g called c.call b from to);
      away = λ j from to.
          (let busy = busy_by f flags (uninterrupted flags j g)
          (at_boundary (IsServed f flags) flags (f.inputs + 5) m j g called c.call b from to) in busy.away);
    })
  where
    by : ℕ → Type 0
    by k = (copy : IsCopied f.memory_map k (image_memory f.image.bytes) flags chosen called)
        → Calls f flags k g looked chosen called copy → 1 ≤ m
        → k + 5 + m ≤ f.step_bound → Before (IsServed f flags) flags m called → IsAnswerRun f flags (k + 5 + m) g

pub sample_run : PlainIsOneStep → InstructionsAreSteps
    → (b : Block) (f : Firmware) (flags : ℕ) (before : ℕ → ℕ) (bytes : List ℕ) (s t : State)
    → IsMailboxOf b f → flags < 2 ^ 8 → s.temps ≡ Free
    → (turn : IsSampleTurn f.memory_map b f.width f.instr_bound
    (image_memory f.image.bytes) flags before bytes s t)
    → IsSampleRun f flags (given f.memory_map bytes s) turn.looked t
sample_run law steps b f flags before bytes s t h fits free turn =
    let l = f.memory_map in
    let image = image_memory f.image.bytes in
    let g = given l bytes s in
    let n = length b.inputs in
    let copy = turn.copy in
    let turned = turn.turned in
    let back = turned.at in
    let called_at = copy.at in
    let m = all_steps turned.ds in
    let c = calls law f flags n g turn.looked turn.chosen turn.called free turn.look turn.choice turn.on copy in
    let serving = steps is_postable l image flags turned.ds turn.called t fits turned.execution in
    let opens : is_postable l.sample_flag ≡ true = ap (λ (k : MemoryMap). is_postable k.sample_flag) h.memory_map in
    let b4 = served f flags m turn.called opens serving.each copy.cleared in
    let end = served_steps f flags turned.ds turn.called t serving b4 in
    let some = some_steps f flags n turned.ds turn.called t end called_at.pc back.pc in
    let bound : steps_by b f.instr_bound ≡ f.step_bound = ap (steps_by b) h.instructions ∙ sym h.steps in
    let ds : List ℕ = 0 ∷ 0 ∷ (copy.ds ++ turned.ds) in
    let sum : n + 5 + m ≡ suc (all_steps ds) =
    (let e = steps_append copy.ds turned.ds in let k = c.count in omega (arith, e, k)) in
    record {
      ds = ds;
      next = c.next;
      steps = steps_on (IsBusy l flags) flags (0 ∷ 0 ∷ copy.ds) turned.ds turn.looked turn.called t c.steps end;
      run = subst (λ (k : ℕ). IsAnswerRun f flags k g) sum
          (answer_run f flags n m g turn.looked turn.chosen turn.called h.inputs copy c some
          (omega (arith, turned.steps, bound)) b4);
      until = turn.until;
    }
