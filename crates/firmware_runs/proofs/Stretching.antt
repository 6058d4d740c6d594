-- Stretches of steps, put together.
use Rattle.std.proofs.Common.{◌≡◌, ℕ, suc, ◌+◌, List, [], ◌∷◌, length, subst, arith}
use Rattle.cpu12_parts.specs.{State.State, Executions.Execution, Executions.all_steps}
use Rattle.run_law.proofs.Algebra.{Stretch, no_stretch, joined}
use Rattle.firmware_runs.specs.Instructions.{AreSteps}

-- One whole instruction leads from s to t by d steps more than one, and P holds at each state before t.
abbrev pub OneInstruction : (State → Type 0) → ℕ → ℕ → State → State → Type 0
OneInstruction P flags d s t = Stretch P flags (suc d) 1 s t

one_behind : (P : State → Type 0) (flags : ℕ) (ds : List ℕ) (s t : State) → Execution (OneInstruction P flags) ds s t
    → Stretch P flags (all_steps ds) (length ds) s t
one_behind P flags [] s t e = subst (λ (u : State). Stretch P flags 0 0 s u) e (no_stretch P flags s)
one_behind P flags (d ∷ ds) s t w =
    let one : 1 + length ds ≡ suc (length ds) = omega arith in
    subst (λ (k : ℕ). Stretch P flags (suc d + all_steps ds) k s t) one
    (joined P flags (suc d) (all_steps ds) 1 (length ds) s w.0 t w.1.0 (one_behind P flags ds w.0 t w.1.1))

pub all_stretches : (P : State → Type 0) (flags : ℕ) (ds : List ℕ) (s t : State)
    → Execution (OneInstruction P flags) ds s t → AreSteps P flags ds s t
all_stretches P flags ds s t e = let r = one_behind P flags ds s t e in
    record { goes = r.goes; counts = r.counts; each = r.each }
