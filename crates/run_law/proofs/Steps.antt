-- A step of a state that simulates one of the run without interrupts.
use Rattle.std.proofs.Common.{◌≡◌, ℕ, Bool, Result, Ok, sym, ap, subst, ◌∙◌}
use Rattle.cpu12_parts.specs.State.{State}
use Rattle.cpu12_emul.specs.Step.{Next, next_of}
use Rattle.cpu12_emul.specs.Simulation.{Same, OnStackOrNone, Simulates, IsShownStep, StepKeeps}
use Rattle.run_law.specs.Uninterrupted.{stepped, kind_at, state_by, kind_by}

-- it is defined, of the same kind, and leads to the same state
pub record StepFollows (open_to : ℕ → Bool) (flags : ℕ) (w s : State) : Type 0 where
  pub next : Next
  pub goes : next_of flags w ≡ Ok next
  pub kind : next.kind ≡ kind_at flags s
  pub same : Same open_to next.state (stepped flags s)

pub step_follows : StepKeeps → (open_to : ℕ → Bool) (flags : ℕ) (w s : State)
    → Simulates OnStackOrNone open_to w s
    → IsShownStep open_to flags s → StepFollows open_to flags w s
step_follows keeps open_to flags w s l k =
    let both = keeps open_to flags w s l k in
    let other : next_of flags s ≡ Ok both.goal = both.uninterrupted in
    record {
      next = both.next;
      goes = both.goes;
      kind = both.kind ∙ ap kind_by (sym other);
      same = subst (λ (o : Result Next ℕ). Same open_to both.next.state (state_by s o)) (sym other) both.same;
    }
