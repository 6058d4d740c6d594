-- Steps one after another on the way to where the code waits, and plain instructions as such.
use Rattle.mailbox_runs.proofs.Words.{[], ◌++◌, ◌+◌, ◌∙◌, ◌∷◌, ◌≡◌, ◌≢◌, all_steps, ap, AreSteps, arith, Before}
use Rattle.mailbox_runs.proofs.Words.{counted, Execution, IsMaskedStep, length, List, MemoryMap, Next, next_of, Ok}
use Rattle.mailbox_runs.proofs.Words.{Plain, PlainIsOneStep, refl, State, subst, sym, uninterrupted, ℕ}
use Rattle.run_law.proofs.Algebra.{Stretch, no_stretch, one_stretch, joined}
use Rattle.cpu12_parts.proofs.Algebra.{steps_append}
use Rattle.std.proofs.lemmas.List.{length-append}

-- a step is defined, and PC is not where the code waits
pub record IsBusy (l : MemoryMap) (flags : ℕ) (s : State) : Type 0 where
  pub next : Next
  pub goes : next_of flags s ≡ Ok next
  pub away : s.regs.pc ≢ l.wait

pub no_step : (P : State → Type 0) (flags : ℕ) (s t : State) → s ≡ t → AreSteps P flags [] s t
no_step P flags s t e = let r = no_stretch P flags s in record { goes = e; counts = r.counts; each = r.each }

pub one_step : (P : State → Type 0) (flags : ℕ) (s t : State) → P s
    → next_of flags s ≡ Ok (record { state = t; kind = Plain })
    → AreSteps P flags (0 ∷ []) s t
one_step P flags s t p e =
    let r = one_stretch P flags Plain s t refl p e in record { goes = r.goes; counts = r.counts; each = r.each }

stretch : (P : State → Type 0) (flags : ℕ) (ds : List ℕ) (s t : State) → AreSteps P flags ds s t
    → Stretch P flags (all_steps ds) (length ds) s t
stretch P flags ds s t a = record { goes = a.goes; counts = a.counts; each = a.each }

pub steps_on : (P : State → Type 0) (flags : ℕ) (ds es : List ℕ) (s t u : State) → AreSteps P flags ds s t
    → AreSteps P flags es t u
    → AreSteps P flags (ds ++ es) s u
steps_on P flags ds es s t u a b =
    let m = all_steps ds in
    let n = all_steps es in
    let e : all_steps (ds ++ es) ≡ m + n = steps_append ds es in
    let r = joined P flags m n (length ds) (length es) s t u (stretch P flags ds s t a) (stretch P flags es t u b) in
    record {
      goes = ap (λ (k : ℕ). uninterrupted flags k s) e ∙ r.goes;
      counts = ap (λ (k : ℕ). counted flags k s) e ∙ r.counts ∙ sym (length-append ds es);
      each = subst (λ (k : ℕ). Before P flags k s) (sym e) r.each;
    }

-- the masked instructions of a copy
pub masked_steps : PlainIsOneStep → (l : MemoryMap) (image : List ℕ) (flags : ℕ) (ds : List ℕ) (s t : State)
    → Execution (IsMaskedStep l image flags) ds s t
    → AreSteps (IsBusy l flags) flags ds s t
masked_steps law l image flags [] s t e = no_step (IsBusy l flags) flags s t e
masked_steps law l image flags (d ∷ ds) s t e =
    let u = e.0 in
    let m : IsMaskedStep l image flags d s u = e.1.0 in
    let steady = m.steady in
    let next : next_of flags s ≡ Ok (record { state = u; kind = Plain }) =
    law flags m.instruction s u steady.temps (let shown = m.shown in shown.step) in
    let first = one_step (IsBusy l flags) flags s u
    (record { next = record { state = u; kind = Plain }; goes = next; away = m.away }) next in
    subst (λ (k : ℕ). AreSteps (IsBusy l flags) flags (k ∷ ds) s t) (sym m.single)
    (steps_on (IsBusy l flags) flags (0 ∷ []) ds s u t first (masked_steps law l image flags ds u t e.1.1))

pub masked_count : (l : MemoryMap) (image : List ℕ) (flags : ℕ) (ds : List ℕ) (s t : State)
    → Execution (IsMaskedStep l image flags) ds s t
    → all_steps ds ≡ length ds
masked_count l image flags [] s t e = refl
masked_count l image flags (d ∷ ds) s t e =
    let single = e.1.0.single in let r = masked_count l image flags ds e.0 t e.1.1 in omega (arith, single, r)
