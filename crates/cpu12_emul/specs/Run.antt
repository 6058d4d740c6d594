-- Steps until PC is at a branch to itself.
-- Beside the promise.
use Rattle.std.specs.Prelude.{◌≡◌, ℕ, zero, suc, ◌<◌, ◌≤◌, ◌==◌, ◌&&◌, Bool, true, false, Ok, Err, slice_index}
use Rattle.cpu12_isa.specs.Memory.{plus}
use Rattle.cpu12_parts.specs.State.{State}
use Rattle.cpu12_emul.specs.declared.{ends.RunEnd.RunEnd, ends.Stepped.TheVariants.Part}
use Rattle.cpu12_emul.specs.declared.ends.RunEnd.TheVariants.{Arrived, Trap, Budget}
use Rattle.cpu12_emul.specs.Step.{Next, next_of}

-- PC is at 20 FE
abbrev pub is_at_rest : State → Bool
is_at_rest s = (slice_index s.mem s.regs.pc == 0x20) && (slice_index s.mem (plus s.regs.pc 1) == 0xFE)

-- k steps lead from s to t, and none of the states before t is at rest
abbrev pub StepsTo : ℕ → ℕ → State → State → Type 0
StepsTo flags zero s t = s ≡ t
StepsTo flags (suc k) s t =
    (is_at_rest s ≡ false) × ((next : Next) × ((next_of flags s ≡ Ok next) × StepsTo flags k next.state t))

-- A run of at most n steps from s ends like this in t: t is the first state at rest, after so many steps; or it is not
-- at rest and after n steps; or it is not at rest, after fewer, and has no step.
abbrev pub EndsRun : ℕ → ℕ → State → RunEnd → State → Type 0
EndsRun flags n s (Arrived k) t = (k ≤ n) × StepsTo flags k s t × (is_at_rest t ≡ true)
EndsRun flags n s (Budget k) t = (k ≡ n) × StepsTo flags k s t × (is_at_rest t ≡ false)
EndsRun flags n s (Trap pc byte) t =
    (k : ℕ) × ((k < n) × StepsTo flags k s t × (is_at_rest t ≡ false) × (t.regs.pc ≡ pc) × (next_of flags t ≡ Err byte))

-- A run has one end.
abbrev pub RunsEndOnce : Type 0
RunsEndOnce =
    (flags n : ℕ) (s t u : State) (e f : RunEnd) → EndsRun flags n s e t → EndsRun flags n s f u → (e ≡ f) × (t ≡ u)

-- n parts of instructions that go on lead from s to t, and P holds wherever one leads
abbrev pub PartsTo : (State → Type 0) → ℕ → ℕ → State → State → Type 0
PartsTo P flags zero s t = s ≡ t
PartsTo P flags (suc n) s t =
    (u : State) × ((next_of flags s ≡ Ok (record { state = u; kind = Part })) × P u × PartsTo P flags n u t)
