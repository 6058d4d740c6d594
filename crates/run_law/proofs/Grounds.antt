-- What the law on runs stands on: a sound form, and the machine's laws.
use Rattle.std.proofs.Common.{ℕ, Bool, List}
use Rattle.cpu12_parts.specs.State.{State}
use Rattle.cpu12_emul.specs.Simulation.{Marks}
use Rattle.run_law.specs.{Forms.Form, Soundness.Sound, Steps.MachineLaws}

pub record Ground {S A B : Type 0} (marks : Marks) (open_to : ℕ → Bool) (f : Form S A B) (P : State → Type 0)
    (Good : A → Type 0) (Own : List (A × B) → State → Type 0) : Type 0 where
  pub sound : Sound marks open_to f P Good Own
  pub machine : MachineLaws

pub ground : {S A B : Type 0} {marks : Marks} {open_to : ℕ → Bool} {f : Form S A B} {P : State → Type 0}
    {Good : A → Type 0} {Own : List (A × B) → State → Type 0} → Sound marks open_to f P Good Own → MachineLaws
    → Ground marks open_to f P Good Own
ground sound machine = record { sound = sound; machine = machine }
