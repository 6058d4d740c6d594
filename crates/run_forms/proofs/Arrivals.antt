-- The step of a plain instruction, and the way to LOOP, by its next step.
use Rattle.std.proofs.Common.{◌≡◌, ℕ, zero, suc, ◌-◌, ◌<◌, ◌==◌, true, false, Result, Ok, Err, inl, refl, ap, sym, ◌∙◌}
use Rattle.std.proofs.Common.{arith}
use Rattle.std.proofs.lemmas.Bool.Decides.{nat_tests}
use Rattle.cpu12_parts.specs.{State.State, declared.temps.Temps.TheVariants.Free}
use Rattle.cpu12_emul.specs.{Simulation.PlainIsStep, Step.Left, Step.Next, Step.applied, Step.next_of}
use Rattle.cpu12_emul.specs.declared.ends.Stepped.TheVariants.{Plain}
use Rattle.run_forms.specs.{Rows.arrival, Arrival.ArrivesPlainly, Arrival.PlainIsOneStep}

-- a plain instruction is one step
pub plain_next : PlainIsStep → PlainIsOneStep
plain_next law flags i s t free p =
    ap (λ (o : Result Left ℕ). applied o s.mem) (law flags i s (inl free) p.decoded p.plain).0 ∙ ap by (sym p.after)
  where
    by : State → Result Next ℕ
    by u = Ok (record { state = u; kind = Plain })

there : (pc loop : ℕ) → pc ≡ loop → (pc == loop) ≡ true
there pc loop e = grind (arith, nat_tests)

elsewhere : (pc loop : ℕ) → (pc ≡ loop → ⊥) → (pc == loop) ≡ false
elsewhere pc loop e = grind (arith, nat_tests)

pub arrives : (flags loop n : ℕ) (s : State) → s.regs.pc ≡ loop → arrival flags loop n s ≡ s
unfolding arrival
arrives flags loop zero s e = refl
arrives flags loop (suc n) s e = let t = there s.regs.pc loop e in rw t refl

pub arrives_later : (flags loop n : ℕ) (s : State) (next : Next) → (s.regs.pc ≡ loop → ⊥) → 0 < n
    → next_of flags s ≡ Ok next
    → arrival flags loop n s ≡ arrival flags loop (n - 1) next.state
unfolding arrival
arrives_later flags loop zero s next e l o = absurd (omega arith)
arrives_later flags loop (suc n) s next e l o = let t = elsewhere s.regs.pc loop e in
    let m : suc n - 1 ≡ n = omega arith in rw (t, o, m) refl

pub arrives_never : (flags loop n : ℕ) (s : State) (byte : ℕ) → (s.regs.pc ≡ loop → ⊥) → next_of flags s ≡ Err byte
    → arrival flags loop n s ≡ s
unfolding arrival
arrives_never flags loop zero s byte e o = refl
arrives_never flags loop (suc n) s byte e o = let t = elsewhere s.regs.pc loop e in rw (t, o) refl

pub arrives_spent : (flags loop n : ℕ) (s : State) → n ≡ 0 → arrival flags loop n s ≡ s
unfolding arrival
arrives_spent flags loop zero s z = refl
arrives_spent flags loop (suc n) s z = absurd (omega arith)

pub arrives_plainly : PlainIsStep → ArrivesPlainly
arrives_plainly law flags loop zero most s t free w at le =
    arrives flags loop most s (ap (λ (u : State). u.regs.pc) w ∙ at) ∙ w
arrives_plainly law flags loop (suc n) most s t free w at le =
    let u = w.0 in
    let i = w.1.1.0 in
    let p = w.1.1.1 in
    let next : Next = record { state = u; kind = Plain } in
    let kept : u.temps ≡ Free = ap (λ (v : State). v.temps) p.after ∙ free in
    arrives_later flags loop most s next w.1.0 (omega arith) (plain_next law flags i s u free p)
    ∙ arrives_plainly law flags loop n (most - 1) u t kept w.1.2 at (omega arith)
