-- The way of a handler to its RTI, by its next step.
use Rattle.std.proofs.Common.{◌≡◌, ◌∙◌, ℕ, zero, suc, ◌+◌, ◌-◌, ◌<◌, Bool, true, false, Ok, Err, get_or, refl}
use Rattle.std.proofs.Common.{sym, ap, ap₂, subst, arith}
use Rattle.std.specs.Prelude.{◌==◌}
use Rattle.std.proofs.lemmas.Bool.Decides.{nat_tests}
use Rattle.cpu12_isa.specs.declared.instr.Regs.{Regs}
use Rattle.cpu12_parts.specs.State.{State}
use Rattle.cpu12_emul.specs.Step.{Next, next_of}
use Rattle.handler_check.specs.Running.{Returned, one_step, until_rti}
use Rattle.handled_runs.specs.{declared.back.HandlerEnd.HandlerEnd, Forms.end_of}

is_rti : (v : ℕ) → v ≡ 11 → (v == 11) ≡ true
is_rti v e = grind (arith, nat_tests)

not_rti : (v : ℕ) → (v ≡ 11 → ⊥) → (v == 11) ≡ false
not_rti v e = grind (arith, nat_tests)

-- What is left of the way, by the step that is done: its byte was read at PC, with the registers before it.
module _ (flags n : ℕ) (s : State) (next : Next) (regs : Regs) (byte : ℕ) (some : 0 < n)
    (goes : next_of flags s ≡ Ok next) (before : regs ≡ s.regs) (read : byte ≡ get_or s.mem regs.pc 0) where
  stands : byte ≡ get_or s.mem s.regs.pc 0
  stands = read ∙ ap (λ (r : Regs). get_or s.mem r.pc 0) before

  -- an RTI ends it
  pub back_now : byte ≡ 11 → until_rti flags n s ≡ record { state = next.state; steps = 1; done = true }
  unfolding until_rti
  back_now is = by n some
    where
      by : (n : ℕ) → 0 < n → until_rti flags n s ≡ record { state = next.state; steps = 1; done = true }
      by zero l = absurd (omega arith)
      by (suc n) l = let t = is_rti (get_or s.mem s.regs.pc 0) (sym stands ∙ is) in rw (goes, t) refl

  -- and else it goes on
  pub back_later : (byte ≡ 11 → ⊥) → until_rti flags n s ≡ one_step (until_rti flags (n - 1) next.state)
  unfolding until_rti
  back_later not = by n some
    where
      by : (n : ℕ) → 0 < n → until_rti flags n s ≡ one_step (until_rti flags (n - 1) next.state)
      by zero l = absurd (omega arith)
      by (suc n) l = let t = not_rti (get_or s.mem s.regs.pc 0) (λ e. not (stands ∙ e)) in
          let m : suc n - 1 ≡ n = omega arith in rw (goes, t, m) refl

-- no step is defined, or none is left
pub back_never : (flags n : ℕ) (s : State) (byte : ℕ) → next_of flags s ≡ Err byte
    → until_rti flags n s ≡ record { state = s; steps = 0; done = false }
unfolding until_rti
back_never flags zero s byte o = refl
back_never flags (suc n) s byte o = rw o refl

pub back_spent : (flags n : ℕ) (s : State) → n ≡ 0 → until_rti flags n s ≡ record { state = s; steps = 0; done = false }
unfolding until_rti
back_spent flags zero s z = refl
back_spent flags (suc n) s z = absurd (omega arith)

-- what is left of the way ends as all of it does, in as many steps with those that were done
pub record Leads (before : ℕ) (left all : Returned) : Type 0 where
  pub state : left.state ≡ all.state
  pub counts : before + left.steps ≡ all.steps
  pub done : left.done ≡ all.done

-- so it does where it is known
pub leads_by : (before : ℕ) (left known all : Returned) → left ≡ known → left.state ≡ all.state
    → before + left.steps ≡ all.steps → left.done ≡ all.done → Leads before known all
leads_by before left known all is state counts done =
    subst (λ (r : Returned). Leads before r all) is (record { state = state; counts = counts; done = done })

-- and how it ends is told
pub told_by : (before steps : ℕ) (known all : Returned) (end : HandlerEnd)
    → end ≡ record { steps = steps; done = known.done } → before + known.steps ≡ steps → Leads before known
    all → end ≡ end_of all
told_by before steps known all end is counts leads =
    is ∙ ap₂ (λ (n : ℕ) (d : Bool). record { steps = n; done = d }) (sym counts ∙ leads.counts) leads.done
