-- Whole instructions one after another.
-- Beside the promise.
use Rattle.std.specs.Prelude.{◌≡◌, ℕ, suc, ◌+◌, Bool, true, false, List, [], ◌∷◌}
use Rattle.cpu12_parts.specs.{State.State, Whole.IsWholeStep}

-- steps of one kind, each with the number of its parts beyond the first
abbrev pub Execution : (ℕ → State → State → Type 0) → List ℕ → State → State → Type 0
Execution W [] s t = s ≡ t
Execution W (d ∷ ds) s t = (u : State) × (W d s u × Execution W ds u t)

-- how many parts they are
abbrev pub all_steps : List ℕ → ℕ
all_steps [] = 0
all_steps (d ∷ ds) = suc d + all_steps ds

-- a whole instruction from a state that does not stop
pub record IsStepBefore (stops : State → Bool) (flags d : ℕ) (s t : State) : Type 0 where
  pub on : stops s ≡ false
  pub step : IsWholeStep flags d s t

-- whole instructions up to the first state that stops
pub record IsUntil (stops : State → Bool) (flags : ℕ) (ds : List ℕ) (s t : State) : Type 0 where
  pub execution : Execution (IsStepBefore stops flags) ds s t
  pub stopped : stops t ≡ true

-- A whole instruction leads to one state, by one number of parts.
abbrev pub WholeStepsAreOne : Type 0
WholeStepsAreOne =
    (flags d e : ℕ) (s t u : State) → IsWholeStep flags d s t → IsWholeStep flags e s u → (d ≡ e) × (t ≡ u)

-- Whole instructions come to one first state that stops, in one way.
abbrev pub ExecutionsAreOne : Type 0
ExecutionsAreOne =
    (stops : State → Bool) (flags : ℕ) (ds es : List ℕ) (s t u : State) → IsUntil stops flags ds s t
    → IsUntil stops flags es s u → (ds ≡ es) × (t ≡ u)
