-- What fits stays so, step by step.
-- Beside the promise.
use Rattle.std.specs.Prelude.{◌≡◌, ℕ, ◌^◌, ◌<◌, Ok}
use Rattle.cpu12_parts.specs.{State.State, Fits.FitsState}
use Rattle.cpu12_emul.specs.Step.{Next, next_of}

-- A step from a state whose registers, sums and bytes fit leads to one.
abbrev pub StepFits : Type 0
StepFits =
    (flags : ℕ) (s : State) (next : Next) → flags < 2 ^ 8 → FitsState s → next_of flags s ≡ Ok next
    → FitsState next.state
