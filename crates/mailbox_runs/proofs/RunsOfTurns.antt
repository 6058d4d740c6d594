-- A block's mailbox firmware runs its turns, from reset on.
use Rattle.mailbox_runs.proofs.Words.{[], ◌++◌, ◌==◌, ◌∙◌, ◌∷◌, ◌≡◌, ◌≤◌, All, All-cons, answer_in, ap, AreAnswersOf}
use Rattle.mailbox_runs.proofs.Words.{AreInputBytes, AreSteps, AreUninterrupted, arith, arrival, Block, Bool}
use Rattle.mailbox_runs.proofs.Words.{bytes_of, false, Firmware, Free, HasSteps, HaveSteps, if◌then◌else◌}
use Rattle.mailbox_runs.proofs.Words.{image_memory, InstructionsAreSteps, is_waiting, IsUntil, length, List}
use Rattle.mailbox_runs.proofs.Words.{MailboxRunsTurns, map, MemoryMap, nat_tests, Plain, PlainIsOneStep, refl}
use Rattle.mailbox_runs.proofs.Words.{run_of_turns, samples_of, State, state_by, steps_by, steps_of, subst, suc, sym}
use Rattle.mailbox_runs.proofs.Words.{true, Turn, uninterrupted, Width, zero, ℕ}
use Rattle.std.proofs.Common.{replicate}
use Rattle.cpu12_parts.specs.{Whole.PlainExecution}
use Rattle.cpu12_emul.specs.{Step.reset_with}
use Rattle.firmware_code.specs.Uninterrupted.{UninterruptedAreOne}
use Rattle.mailbox_code.specs.Mailboxes.{mailbox_bound}
use Rattle.eval_code.specs.{Bounds.instruction_bound}
use Rattle.mailbox_code.specs.{SampleTurns.MailboxTakesSamples, Turns.MailboxTakesPosts, Turns.MailboxIsUninterrupted}
use Rattle.mailbox_runs.proofs.{Alone.IsAlone, Alone.alone, Looking.alike_self, TurnSteps.Setting, TurnSteps.Waits}
use Rattle.mailbox_runs.proofs.WholeTurns.{IsBusy, no_step, one_step, steps_on}
use Rattle.mailbox_runs.proofs.TurnRuns.{all_run, sample_bytes}

execution_steps : PlainIsOneStep → (l : MemoryMap) (flags n : ℕ) (s t : State) → s.temps ≡ Free
    → PlainExecution flags l.wait n s t
    → AreSteps (IsBusy l flags) flags (replicate n 0) s t
execution_steps law l flags zero s t free w = no_step (IsBusy l flags) flags s t w
execution_steps law l flags (suc n) s t free w =
    let u = w.0 in
    let step = w.1.1.1 in
    let next = law flags w.1.1.0 s u free step in
    let kept : u.temps ≡ Free = ap (λ (v : State). v.temps) step.after ∙ free in
    steps_on (IsBusy l flags) flags (0 ∷ []) (replicate n 0) s u t
    (one_step (IsBusy l flags) flags s u
    (record { next = record { state = u; kind = Plain }; goes = next; away = w.1.0 }) next)
    (execution_steps law l flags n u t kept w.1.2)

-- the first arrival
arrives : PlainIsOneStep → (f : Firmware) (flags : ℕ) (samples : List (List ℕ)) (t : State) → 3 ≤ f.step_bound
    → PlainExecution flags f.memory_map.wait 3 (reset_with (image_memory f.image.bytes)) t → t.regs.pc
    ≡ f.memory_map.wait
    → ((arrival f samples flags).arrived ≡ true) × ((arrival f samples flags).state ≡ t)
arrives law f flags samples t le w at =
    let s = reset_with (image_memory f.image.bytes) in
    let u = w.0 in
    let step = w.1.1.1 in
    let next = law flags w.1.1.0 s u refl step in
    let kept : u.temps ≡ Free = ap (λ (v : State). v.temps) step.after in
    let rest = execution_steps law f.memory_map flags 2 u t kept w.1.2 in
    let r : IsAlone flags 3 s (arrival f samples flags) =
    alone flags f samples 2 f.step_bound s (record { state = u; kind = Plain }) le next rest.each
    (ap (λ (v : State). v.regs.pc) rest.goes ∙ at) in
    (r.arrived, r.state ∙ ap (uninterrupted flags 2) (ap (state_by s) next) ∙ rest.goes)

-- it is within the bound
enough_steps : (w : Width) (b : Block) → length b.outputs ≤ 4 → 3 ≤ steps_by b (mailbox_bound w b)
unfolding steps_by instruction_bound
enough_steps w b few = omega arith

-- the input bytes of the samples that turns answer
answered_bytes : (b : Block) (samples : List (List ℕ)) (steps : List ℕ → ℕ) (done : List ℕ) (ts : List Turn)
    → All (AreInputBytes b) samples
    → HaveSteps (length samples) steps done ts → All (AreInputBytes b) (map (bytes_of samples) (samples_of ts))
answered_bytes b samples steps done [] all have = λ k d lt. absurd (omega arith)
answered_bytes b samples steps done (t ∷ ts) all have =
    by (t.sample == 0) refl
    (answered_bytes b samples steps (if t.sample == 0 then done else done ++ t.sample ∷ []) ts all have.1)
  where
    by : (c : Bool) → (t.sample == 0) ≡ c → All (AreInputBytes b) (map (bytes_of samples) (samples_of ts))
        → All (AreInputBytes b) (map (bytes_of samples) (samples_of (t ∷ ts)))
    by true e rest = rw e rest
    by false e rest =
        let has : HasSteps (length samples) steps done t = have.0 in
        let some : 1 ≤ t.sample = grind (arith, nat_tests) in
        rw e (All-cons (AreInputBytes b) (bytes_of samples t.sample) (map (bytes_of samples) (samples_of ts))
        (sample_bytes b samples t.sample all some has.within) rest)

-- the laws that this rests on
pub record Laws : Type 0 where
  pub plain_is_one_step : PlainIsOneStep
  pub instructions_are_steps : InstructionsAreSteps
  pub takes_posts : MailboxTakesPosts
  pub takes_samples : MailboxTakesSamples
  pub is_uninterrupted : MailboxIsUninterrupted
  pub uninterrupted_are_one : UninterruptedAreOne

pub mailbox_runs_turns : Laws → MailboxRunsTurns
mailbox_runs_turns laws b f flags samples turns v limits h fits all have =
    let image = image_memory f.image.bytes in
    let w = f.width in
    let first = (arrival f samples flags).state in
    let takes = laws.takes_samples b f flags v limits h fits in
    let ready = takes.ready in
    let home = ready.at in
    let arrived = arrives laws.plain_is_one_step f flags samples takes.first
    (let enough = enough_steps w b v.few_outputs in omega (arith, enough, h.steps)) ready.execution home.pc in
    let x : Setting b f flags samples = record {
      plain_is_one_step = laws.plain_is_one_step;
      instructions_are_steps = laws.instructions_are_steps;
      mailbox = h;
      fits = fits;
      turns = laws.takes_posts b f v limits h flags fits;
      takes = takes;
      bytes = all;
    } in
    let start : Waits b f (λ o. 0) takes.first =
    record { at = home; cleared = ready.cleared; outputs = ready.outputs } in
    let waits : Waits b f (λ o. 0) first = subst (Waits b f (λ o. 0)) (sym arrived.1) start in
    let run = all_run b f flags samples (λ o. 0) [] turns first x
    (record { waits = waits; there = waits; alike = alike_self first }) have in
    let xs = map (bytes_of samples) (samples_of turns) in
    let ys = map answer_in (run_of_turns flags f samples turns first).answers in
    let until : IsUntil (is_waiting f.memory_map) flags (0 ∷ 0 ∷ 0 ∷ []) (reset_with image) first =
    subst (IsUntil (is_waiting f.memory_map) flags (0 ∷ 0 ∷ 0 ∷ []) (reset_with image)) (sym arrived.1) takes.arrived in
    let are : AreUninterrupted f flags xs ys =
    record { first = first; ds = 0 ∷ 0 ∷ 0 ∷ []; arrived = until; each = run.answers } in
    let one = laws.is_uninterrupted b f v limits h flags xs fits
    (answered_bytes b samples (steps_of flags f samples) [] turns all have) in
    record {
      arrived = arrived.0;
      runs = run.runs;
      answers_are = are;
      of_block = subst (AreAnswersOf w b f.instr_bound (λ o. 0) xs)
          (laws.uninterrupted_are_one f flags xs one.0 ys one.1.0 are) one.1.1;
      facts = run.facts;
    }
