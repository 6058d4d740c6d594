-- Steps up to an RTI, and the RTI.
use Rattle.handler_check.proofs.Words.{◌<◌, ◌==◌, ◌∙◌, ◌≡◌, ap, applied, arith, Bool, false, get_or, IsOff, Left, Next}
use Rattle.handler_check.proofs.Words.{next_of, Ok, Plain, refl, Result, Returned, returned, Rti, StandsAt, State}
use Rattle.handler_check.proofs.Words.{subst, suc, sym, true, until_rti, zero, ℕ}
use Rattle.handler_check.specs.{Running.then_back, Running.one_step}
use Rattle.handler_check.proofs.Grounds.{Grounds}

-- k steps lead from s to g, and none of them is an RTI
abbrev pub ToRti : ℕ → ℕ → State → State → Type 0
ToRti flags zero s g = s ≡ g
ToRti flags (suc k) s g =
    ((get_or s.mem s.regs.pc 0 == 11) ≡ false)
    × ((next : Next) × ((next_of flags s ≡ Ok next) × ToRti flags k next.state g))

came : State → ℕ → Returned
came s k = record { state = s; steps = k; done = true }

pub back_in : (flags k n : ℕ) (s g : State) (next : Next) → k < n → ToRti flags k s g → get_or g.mem g.regs.pc 0 ≡ 11
    → next_of flags g ≡ Ok next
    → until_rti flags n s ≡ record { state = next.state; steps = suc k; done = true }
unfolding until_rti came
back_in flags zero zero s g next l e b go = absurd (omega arith)
back_in flags (suc k) zero s g next l e b go = absurd (omega arith)
back_in flags zero (suc n) s g next l e b go =
    subst (λ (u : State). until_rti flags (suc n) u ≡ came next.state 1) (sym e)
    (ap (λ (j : ℕ). then_back (j == 11) (until_rti flags n) g (next_of flags g)) b
    ∙ ap (then_back true (until_rti flags n) g) go)
back_in flags (suc k) (suc n) s g next l e b go =
    let there : Next = e.1.0 in
    let r : until_rti flags n there.state ≡ came next.state (suc k) =
    back_in flags k n there.state g next (omega arith) e.1.1.1 b go in
    ap (λ (t : Bool). then_back t (until_rti flags n) s (next_of flags s)) e.0
    ∙ ap (then_back false (until_rti flags n) s) e.1.1.0
    ∙ ap one_step r

-- the step of an RTI
pub rti_steps : Grounds → (flags : ℕ) (s : State) → IsOff s.temps → StandsAt s.mem s.regs.pc Rti
    → next_of flags s ≡ Ok (record { state = returned s; kind = Plain })
rti_steps k flags s off stands =
    let step = k.plain_is_step flags Rti s off (k.decodes s.mem s.regs.pc Rti tt stands) refl in
    ap (λ (o : Result Left ℕ). applied o s.mem) step.0
