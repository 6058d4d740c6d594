-- Samples, steps and the push of the sums leave the open bytes.
use Rattle.std.proofs.Common.{◌≡◌, ℕ, ◌+◌, ◌≤◌, ◌⊎◌, inl, inr, Bool, true, false, Ok, Result, List, [], ◌∷◌, ◌++◌}
use Rattle.std.proofs.Common.{get_or, refl, ap, sym, ◌∙◌, subst, arith, nat_lt, nat_le}
use Rattle.std.specs.Prelude.{min, ◌&&◌}
use Rattle.std.proofs.lemmas.Bool.{both_ways, or_parts}
use Rattle.cpu12_isa.specs.declared.instr.Regs.{Regs}
use Rattle.cpu12_isa.specs.{Act.outcome, Act.write_all, Agreement.IsWritten, Agreement.WritesStay, Memory.plus}
use Rattle.cpu12_isa.specs.{Memory.placed, Regions.is_hidden, Regions.LeavesStack}
use Rattle.cpu12_parts.specs.declared.temps.Temps.{Temps}
use Rattle.cpu12_parts.specs.declared.temps.Temps.TheVariants.{Free, Running, OnStack}
use Rattle.cpu12_parts.specs.{State.State, Parts.sum_bytes, Parts.suspended, Parts.wav, Inside.PushesRunning}
use Rattle.cpu12_parts.specs.{Inside.PushesNone, Laws.IsOff}
use Rattle.cpu12_emul.specs.Step.{Left, Next, step_act, applied, next_of}
use Rattle.cpu12_emul.specs.Simulation.{OnStackOrNone, Simulates, AreSumsReady, HasRoom, IsShownStep, StepAgrees}
use Rattle.cpu12_emul.specs.Simulation.{WavrGoesOn}
use Rattle.run_law.specs.Uninterrupted.{stepped, state_by}
use Rattle.firmware_code.specs.Interruptible.{IsStackOfOneCall}
use Rattle.firmware_code.proofs.Algebra.{sp_near}
use Rattle.firmware_runs.specs.Facts.{Facts}
use Rattle.alone_runs.specs.OpenBytes.{AreOpenAlike, StepsLeaveOpen, GivenLeavesOpen}
use Rattle.run_forms.proofs.Algebra.{placed_in}
use Rattle.eval_code.proofs.Algebra.{written_shown}

-- the laws of lower crates
pub record OpenLaws : Type 0 where
  pub step_agrees : StepAgrees
  pub wavr_goes_on : WavrGoesOn
  pub writes_stay : WritesStay
  pub pushes_running : PushesRunning
  pub pushes_none : PushesNone

-- writes elsewhere
kept : WritesStay → (open_to : ℕ → Bool) (ws : List (ℕ × ℕ)) (m : List ℕ)
    → ((at : ℕ) → IsWritten ws at → open_to at ≡ true → ⊥) → AreOpenAlike open_to m (write_all ws m)
kept stay open_to ws m apart at is = (stay ws m).1 at (λ w. apart at w is)

pub written_parts : (a b : List (ℕ × ℕ)) (at : ℕ) → IsWritten (a ++ b) at → IsWritten a at ⊎ IsWritten b at
written_parts [] b at w = inr w
written_parts (x ∷ a) b at (inl e) = inl (inl e)
written_parts (x ∷ a) b at (inr w) = elim (written_parts a b at w) [ inl h ↦ inl (inr h) | inr h ↦ inr h ]

-- a sample
pub given_leaves_open : WritesStay → GivenLeavesOpen
given_leaves_open stay open_to l bytes w few end ready samples =
    kept stay open_to (placed l.samples bytes ++ (l.sample_flag, 1) ∷ []) w.mem apart
  where
    apart : (at : ℕ) → IsWritten (placed l.samples bytes ++ (l.sample_flag, 1) ∷ []) at → open_to at ≡ true → ⊥
    apart at h is = elim (written_parts (placed l.samples bytes) ((l.sample_flag, 1) ∷ []) at h) [
      | inl x ↦
          (let r = placed_in bytes l.samples at (omega arith) x in
          both_ways (open_to at) (samples at r.0 (omega (arith, r.1))) is)
      | inr x ↦ elim x [ inl e ↦ both_ways (open_to at) (ap open_to e ∙ ready) is | inr none ↦ absurd none ]
    ]

-- SP under interrupts
pub sp_of : (open_to : ℕ → Bool) (w s : State) → IsStackOfOneCall s.regs.sp → Simulates OnStackOrNone open_to w s
    → (0x1FF8 ≤ w.regs.sp) × (w.regs.sp ≤ 0x2000)
sp_of open_to w s k (inl l) =
    let near = sp_near s.regs.sp k in
    let e = ap (λ (r : Regs). r.sp) l.regs in
    (omega (arith, near.0), omega (arith, near.1))
sp_of open_to w s k (inr l) =
    let near = sp_near s.regs.sp k in
    let e : w.regs.sp ≡ plus s.regs.sp 65530 = ap (λ (r : Regs). r.sp) l.regs in
    (omega (arith, near.0, near.1), omega (arith, near.0, near.1))

-- the push of the sums
pushes : OpenLaws → (open_to : ℕ → Bool) → LeavesStack open_to → (w : State) → 0x1FF8 ≤ w.regs.sp → w.regs.sp ≤ 0x2000
    → AreOpenAlike open_to w.mem (suspended wav w).mem
pushes laws open_to apart w lo hi = cases w.temps refl
  where
    same : IsOff w.temps → AreOpenAlike open_to w.mem (suspended wav w).mem
    same off = subst (λ (v : State). AreOpenAlike open_to w.mem v.mem) (sym (laws.pushes_none w off)) (λ at is. refl)

    on_stack : (p q at : ℕ) → IsWritten (placed (plus w.regs.sp 65530) (sum_bytes p q)) at → open_to at ≡ true → ⊥
    on_stack p q at h is =
        (let end : plus w.regs.sp 65530 + 6 ≡ w.regs.sp = omega arith in
        let r = placed_in (sum_bytes p q) (plus w.regs.sp 65530) at (omega arith) h in
        elim (apart at is) [
          | inl l ↦ absurd (omega (arith, r.0))
          | inr l ↦ absurd (omega (arith, r.1))
        ])

    cases : (t : Temps) → w.temps ≡ t → AreOpenAlike open_to w.mem (suspended wav w).mem
    cases Free e = same (inl e)
    cases OnStack e = same (inr e)
    cases (Running p q) e =
        subst (λ (v : State). AreOpenAlike open_to w.mem v.mem) (sym (laws.pushes_running w p q e))
        (kept laws.writes_stay open_to (placed (plus w.regs.sp 65530) (sum_bytes p q)) w.mem (on_stack p q))

-- a step writes what it writes without interrupts
pub step_left : StepAgrees → WavrGoesOn → (open_to : ℕ → Bool) (flags : ℕ) (w s : State)
    → (k : IsShownStep open_to flags s) → Simulates OnStackOrNone open_to w s
    → outcome (step_act flags w.regs w.temps) w.mem ≡ Ok k.left
step_left agrees wavr open_to flags w s k (inl l) =
    let both =
    agrees flags s.regs s.temps w.mem s.mem k.left (is_hidden open_to s.regs.sp)
    (is_hidden open_to k.left.regs.sp) l.mem k.reads k.goes k.covers in
    ap (λ (r : Regs). outcome (step_act flags r w.temps) w.mem) l.regs
    ∙ ap (λ (u : Temps). outcome (step_act flags s.regs u) w.mem) l.temps ∙ both.0
step_left agrees wavr open_to flags w s k (inr l) =
    let good : AreSumsReady open_to s (Running l.product l.weight) =
    subst (λ (u : Temps). AreSumsReady open_to s u) l.running k.sums in
    let room : HasRoom s = k.room in
    let fits = room.fits in
    let code : get_or w.mem s.regs.pc 0 ≡ 60 = l.mem.bytes s.regs.pc good.3 ∙ good.2 in
    let both =
    agrees flags s.regs s.temps w.mem s.mem k.left (is_hidden open_to s.regs.sp)
    (is_hidden open_to k.left.regs.sp) l.mem k.reads k.goes k.covers in
    ap (λ (r : Regs). outcome (step_act flags r w.temps) w.mem) l.regs
    ∙ wavr flags s.regs w.temps l.product l.weight w.mem l.temps fits.sp good.0 good.1 code l.sums
    ∙ ap (λ (u : Temps). outcome (step_act flags s.regs u) w.mem) (sym l.running)
    ∙ both.0

open_not : (open_to : ℕ → Bool) (sp at : ℕ) → open_to at ≡ true → is_hidden open_to sp at ≡ false → ⊥
open_not open_to sp at is h =
    both_ways (open_to at) (or_parts (open_to at) (nat_le 0x1FE0 at && nat_lt at sp) h).0 is

steps : OpenLaws → (open_to : ℕ → Bool) (flags : ℕ) (w s : State) → Facts open_to flags s
    → Simulates OnStackOrNone open_to w s
    → AreOpenAlike open_to w.mem (stepped flags w).mem
steps laws open_to flags w s facts l at is =
    let k = facts.shown in
    let e : next_of flags w ≡ applied (Ok k.left) w.mem =
    ap (λ (o : Result Left ℕ). applied o w.mem) (step_left laws.step_agrees laws.wavr_goes_on open_to flags w s k l) in
    let low = min s.regs.sp k.left.regs.sp in
    ap (λ (o : Result Next ℕ). get_or (state_by w o).mem at 0) e
    ∙ (laws.writes_stay k.left.writes w.mem).1 at
    (λ h. open_not open_to low at is (written_shown (is_hidden open_to low) k.left.writes at facts.writes h))

pub steps_leave_open : OpenLaws → StepsLeaveOpen
steps_leave_open laws open_to flags f w s apart p l =
    let sp = sp_of open_to w s p.stack l in
    record { steps = steps laws open_to flags w s p.facts l; pushes = pushes laws open_to apart w sp.0 sp.1 }
