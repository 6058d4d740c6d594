-- Executions one behind the other, whatever their steps are, and those of so many steps at most.
use Rattle.std.proofs.Common.{◌≡◌, ℕ, ◌+◌, ◌≤◌, List, [], ◌∷◌, ◌++◌, length, refl, sym, subst, arith, length-append}
use Rattle.cpu12_parts.specs.{State.State, Executions.Execution, Executions.all_steps}

pub execution_on : (W : ℕ → State → State → Type 0) (ds es : List ℕ) (s t u : State) → Execution W ds s t
    → Execution W es t u → Execution W (ds ++ es) s u
execution_on W [] es s t u a b = subst (λ v. Execution W es v u) (sym a) b
execution_on W (d ∷ ds) es s t u a b = (a.0, (a.1.0, execution_on W ds es a.0 t u a.1.1 b))

pub steps_append : (ds es : List ℕ) → all_steps (ds ++ es) ≡ all_steps ds + all_steps es
steps_append [] es = omega arith
steps_append (d ∷ ds) es = let e = steps_append ds es in omega arith

-- executions of at most n steps, with at most k parts beyond their first
pub record Bounded (W : ℕ → State → State → Type 0) (n k : ℕ) (s t : State) : Type 0 where
  pub ds : List ℕ
  pub execution : Execution W ds s t
  pub count : length ds ≤ n
  pub parts : all_steps ds ≤ n + k

pub bounded_none : (W : ℕ → State → State → Type 0) (s : State) → Bounded W 0 0 s s
bounded_none W s = record { ds = []; execution = refl; count = omega arith; parts = omega arith }

pub bounded_one : (W : ℕ → State → State → Type 0) (d : ℕ) (s t : State) → W d s t → Bounded W 1 d s t
bounded_one W d s t h = record { ds = d ∷ []; execution = (t, (h, refl)); count = omega arith; parts = omega arith }

pub bounded_on : (W : ℕ → State → State → Type 0) (n k m j : ℕ) (s t u : State) → Bounded W n k s t → Bounded W m j t u
    → Bounded W (n + m) (k + j) s u
bounded_on W n k m j s t u a b = record {
  ds = a.ds ++ b.ds;
  execution = execution_on W a.ds b.ds s t u a.execution b.execution;
  count = omega (arith, length-append a.ds b.ds, a.count, b.count);
  parts = omega (arith, steps_append a.ds b.ds, a.parts, b.parts);
}

pub bounded_more : (W : ℕ → State → State → Type 0) (n k m j : ℕ) (s t : State) → n ≤ m → k ≤ j → Bounded W n k s t
    → Bounded W m j s t
bounded_more W n k m j s t a b g =
    record { ds = g.ds; execution = g.execution; count = omega (arith, g.count); parts = omega (arith, g.parts) }
