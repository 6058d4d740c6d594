-- What each state keeps between and inside whole instructions on a sample.
use Rattle.std.proofs.Common.{◌≡◌, ◌==◌, ◌&&◌, ℕ, ◌^◌, ◌<◌, ◌≤◌, min, Bool, true, false, List, [], ◌∷◌, refl}
use Rattle.std.proofs.Common.{ap, ap₂, sym, ◌∙◌, subst, arith, inl, inr}
use Rattle.std.proofs.lemmas.Bool.{Decides.nat_tests, true≢false}
use Rattle.cpu12_isa.specs.declared.instr.Instr.{Instr, TheVariants.Rev, TheVariants.Revw, TheVariants.Wav}
use Rattle.cpu12_isa.specs.{Act.read_by, Agreement.AllShown, Agreement.Uncovers, Code.six_from, Meaning.Effect}
use Rattle.cpu12_isa.specs.{Meaning.effect, Meaning.plain_act}
use Rattle.cpu12_isa.specs.Regions.{stack_end, is_hidden}
use Rattle.cpu12_isa.proofs.Algebra.{shown_append}
use Rattle.cpu12_parts.specs.{declared.temps.Temps.Temps, Averages.wav_read, Laws.AreKept, Laws.addresses, State.State}
use Rattle.cpu12_parts.specs.declared.temps.Temps.TheVariants.{Free, OnStack, Running}
use Rattle.cpu12_parts.specs.Rules.{RuleOperands, Rule, rev_operands, revw_operands, rules_read, rules_written}
use Rattle.cpu12_parts.specs.{Executions.Execution, Touching.Each, Touching.IsInstructionOver, Touching.IsRulesOver}
use Rattle.cpu12_emul.specs.{declared.ends.Stepped.TheVariants.Plain, Simulation.AreSumsReady}
use Rattle.eval_code.specs.declared.memory_map.MemoryMap.{MemoryMap}
use Rattle.firmware_code.specs.Interruptible.{is_idle, IsInterruptible, IsInterruptibleStep, IsShownPlain, IsShownRules}
use Rattle.firmware_code.specs.Interruptible.{IsShownAverage, IsShownInstruction, IsStackOfOneCall}
use Rattle.firmware_code.proofs.Algebra.{in_room}
use Rattle.run_forms.specs.Arrival.{PlainIsOneStep}
use Rattle.run_law.specs.{Steps.StepLaws, Uninterrupted.uninterrupted}
use Rattle.run_law.proofs.Algebra.{one_stretch}
use Rattle.firmware_runs.specs.{Facts.Facts, Facts.AreNoneOrRunning}
use Rattle.firmware_runs.specs.Instructions.{IsServing, InstructionsAreSteps}
use Rattle.firmware_runs.specs.Within.{IsReached, IsAtPart, IsWithin}
use Rattle.firmware_runs.proofs.{Stretching.OneInstruction, Stretching.all_stretches, Within.found}
use Rattle.firmware_runs.proofs.Within.{all_seen, instruction_stays_within}
use Rattle.firmware_runs.proofs.Spared.{is_spared, own_spared, above_spared, spared_shown, none_spared}

each_shown : (h : ℕ → Bool) (ats : List ℕ) → AllShown h ats → Each (λ at. h at ≡ false) ats
each_shown h [] a = tt
each_shown h (at ∷ ats) a = (a.0, each_shown h ats a.1)

all_kept : (ats : List ℕ) → Each (λ at. true ≡ true) ats
all_kept [] = tt
all_kept (at ∷ ats) = (refl, all_kept ats)

-- PC is elsewhere than where the code waits
off_loop : (l : MemoryMap) (v : State) → (v.regs.pc ≡ l.wait → ⊥) → is_idle l v ≡ false
off_loop l v h = let t : (v.regs.pc == l.wait) ≡ false = grind (arith, nat_tests) in rw t refl

none_or_running : (s v : State) → s.temps ≡ Free → IsAtPart s v → AreNoneOrRunning v.temps
none_or_running s v free (inl p) = subst AreNoneOrRunning (sym (p.1 ∙ free)) tt
none_or_running s v free (inr p) = run v.temps p.sums
  where
    run : (t : Temps) → AreKept t → AreNoneOrRunning t
    run Free k = tt
    run OnStack k = k
    run (Running x w) k = tt

reached : (open_to kept : ℕ → Bool) (image : List ℕ) (s : State) → IsInterruptible open_to image s
    → Each (λ at. kept at ≡ true) (six_from s.regs.pc)
    → IsReached open_to (is_hidden open_to s.regs.sp) kept s
reached open_to kept image s c own = record {
  between = record { off = inl c.temps; size = c.size; bytes = c.bytes; fits = c.fits };
  low = (in_room s.regs.sp c.stack).0;
  high = (in_room s.regs.sp c.stack).1;
  code = each_shown (is_hidden open_to s.regs.sp) (six_from s.regs.pc) c.code;
  stays = own;
  seen = λ at h. h;
}

-- a state within an instruction
serving : (open_to kept : ℕ → Bool) (l : MemoryMap) (image : List ℕ) (flags : ℕ) (s v : State)
    → IsInterruptible open_to image s → ((at : ℕ) → kept at ≡ false → is_hidden open_to s.regs.sp at ≡ false)
    → ((at : ℕ) → stack_end ≤ at → kept at ≡ true) → is_idle l v ≡ false
    → IsWithin open_to (is_hidden open_to s.regs.sp) kept flags s v → IsServing open_to l image flags v
serving open_to kept l image flags s v c less above busy w =
    let shown = w.shown in
    let ws = shown.left.writes in
    let least : s.regs.sp ≡ min v.regs.sp shown.left.regs.sp = omega (arith, w.stack, w.rises) in
    record {
      facts = record {
        shown = shown;
        writes = subst (λ (n : ℕ). AllShown (is_hidden open_to n) (addresses ws)) least
            (all_seen kept (is_hidden open_to s.regs.sp) (addresses ws) less w.writes);
        unmasked = w.mask ∙ c.mask;
        sums = none_or_running s v c.temps w.place;
      };
      busy = busy;
      image = λ at le. w.same at (above at le) ∙ c.same at le;
      stack = subst IsStackOfOneCall (sym w.stack) c.stack;
    }

plain_step : StepLaws → PlainIsOneStep
    → (open_to : ℕ → Bool) (l : MemoryMap) (image : List ℕ) (flags : ℕ) (i : Instr) (s t : State)
    → is_idle l s ≡ false → IsInterruptible open_to image s → IsShownPlain open_to flags i s t
    → OneInstruction (IsServing open_to l image flags) flags 0 s t
plain_step laws one open_to l image flags i s t busy c p =
    let h = is_hidden open_to s.regs.sp in
    let e : Effect = effect flags i s.regs s.mem in
    let step = p.step in
    let is = laws.plain_is_step flags i s (inl c.temps) step.decoded step.plain in
    let facts : Facts open_to flags s = record {
      shown = record {
        left = record { regs = e.regs; temps = s.temps; writes = e.writes; kind = Plain };
        goes = is.0;
        reads = subst (AllShown h) (sym is.1)
            (shown_append h (six_from s.regs.pc) (read_by (plain_act flags i s.regs) s.mem) c.code p.reads);
        covers = subst (λ (u : State). Uncovers h e.writes (is_hidden open_to u.regs.sp)) step.after p.uncovers;
        room = record {
          size = c.size;
          fits = c.fits;
          low = (in_room s.regs.sp c.stack).0;
          high = (in_room s.regs.sp c.stack).1;
        };
        sums = subst (λ (u : Temps). AreSumsReady open_to s u) (sym c.temps) tt;
      };
      writes = subst (λ (u : State). AllShown (is_hidden open_to (min s.regs.sp u.regs.sp)) (addresses e.writes))
          step.after p.writes;
      unmasked = c.mask;
      sums = subst AreNoneOrRunning (sym c.temps) tt;
    } in
    one_stretch (IsServing open_to l image flags) flags Plain s t refl
    (record { facts = facts; busy = busy; image = c.same; stack = c.stack }) (one flags i s t c.temps step)

-- REV, REVW and WAV leave SP
parts_step : StepLaws → (open_to kept : ℕ → Bool) (l : MemoryMap) (image : List ℕ) (flags d : ℕ) (s t : State)
    → flags < 2 ^ 8 → IsInterruptible open_to image s → Each (λ at. kept at ≡ true) (six_from s.regs.pc)
    → ((at : ℕ) → kept at ≡ false → is_hidden open_to s.regs.sp at ≡ false)
    → ((at : ℕ) → stack_end ≤ at → kept at ≡ true) → t.regs.sp ≡ s.regs.sp
    → ((v : State) → IsWithin open_to (is_hidden open_to s.regs.sp) kept flags s v → is_idle l v ≡ false)
    → IsInstructionOver (λ at. is_hidden open_to s.regs.sp at ≡ false) (λ at. kept at ≡ false) flags d s t
    → OneInstruction (IsServing open_to l image flags) flags d s t
parts_step laws open_to kept l image flags d s t hf c own less above level busy h =
    let r = instruction_stays_within laws open_to (is_hidden open_to s.regs.sp) kept flags d s t hf
    (reached open_to kept image s c own) h (omega (arith, level)) in
    record {
      goes = r.0;
      counts = r.1;
      each = λ j n. serving open_to kept l image flags s (uninterrupted flags j s) c less above
          (busy (uninterrupted flags j s) (r.2 j n)) (r.2 j n);
    }

step_stretch : StepLaws → PlainIsOneStep
    → (open_to : ℕ → Bool) (l : MemoryMap) (image : List ℕ) (flags d : ℕ) (s t : State)
    → flags < 2 ^ 8 → IsInterruptibleStep open_to l image flags d s t
    → OneInstruction (IsServing open_to l image flags) flags d s t
step_stretch laws one open_to l image flags d s t hf h = by h.instruction
  where
    c : IsInterruptible open_to image s
    c = h.interruptible

    hidden : ℕ → Bool
    hidden = is_hidden open_to s.regs.sp

    kept : ℕ → Bool
    kept = is_spared hidden (six_from s.regs.pc)

    -- between the parts of REV or REVW PC is at it
    rules : (i : Instr) (f : RuleOperands) (p : Rule) (ps : List Rule) → IsShownRules open_to l.wait i f flags d p ps s t
        → (found i ≡ found Wav → ⊥)
        → (IsRulesOver (λ at. hidden at ≡ false) (λ at. kept at ≡ false) i f flags d p ps s t
        → IsInstructionOver (λ at. hidden at ≡ false) (λ at. kept at ≡ false) flags d s t)
        → OneInstruction (IsServing open_to l image flags) flags d s t
    rules i f p ps k other over =
        let step = k.step in
        parts_step laws open_to kept l image flags d s t hf c (own_spared hidden (six_from s.regs.pc))
        (spared_shown hidden (six_from s.regs.pc)) (above_spared hidden (six_from s.regs.pc))
        (ap (λ (u : State). u.regs.sp) step.after) (λ v w. there v w.place)
        (over (record {
          step = step;
          reads = each_shown hidden (rules_read f s.regs p ps) k.reads;
          writes = none_spared hidden (six_from s.regs.pc) (rules_written f p ps) k.writes k.below k.itself;
        }))
      where
        there : (v : State) → IsAtPart s v → is_idle l v ≡ false
        there v (inl q) = off_loop l v (λ e. k.away (sym q.0 ∙ e))
        there v (inr q) = (let step = k.step in absurd (other (sym step.decoded ∙ q.decoded)))

    -- and between those of WAV at its second byte, over the same memory
    average : IsShownAverage open_to l.wait flags d s t → OneInstruction (IsServing open_to l image flags) flags d s t
    average k =
        let step = k.step in
        parts_step laws open_to (λ at. true) l image flags d s t hf c (all_kept (six_from s.regs.pc))
        (λ at e. absurd (true≢false e)) (λ at le. refl) (ap (λ (u : State). u.regs.sp) step.after)
        (λ v w. there v w w.place)
        (inr (inr (inr (record {
          step = step;
          some = k.some;
          reads = each_shown hidden (wav_read s.regs) k.reads;
        }))))
      where
        there : (v : State) → IsWithin open_to hidden (λ at. true) flags s v → IsAtPart s v → is_idle l v ≡ false
        there v w (inl q) =
            ap₂ (λ (pc byte : ℕ). (pc == l.wait) && (byte == 0)) q.0 (w.same l.sample_flag refl) ∙ h.busy
        there v w (inr q) = off_loop l v (λ e. k.away (sym q.pc ∙ e))

    by : IsShownInstruction open_to l.wait flags d s t → OneInstruction (IsServing open_to l image flags) flags d s t
    by (inl p) =
        subst (λ (k : ℕ). OneInstruction (IsServing open_to l image flags) flags k s t) (sym p.1.1)
        (plain_step laws one open_to l image flags p.0 s t h.busy c p.1.0)
    by (inr (inl p)) = rules Rev (rev_operands s.regs.y) p.0 p.1 p.2 (λ e. cc) (λ k. inr (inl (p.0, p.1, k)))
    by (inr (inr (inl p))) = rules Revw revw_operands p.0 p.1 p.2 (λ e. cc) (λ k. inr (inr (inl (p.0, p.1, k))))
    by (inr (inr (inr p))) = average p

stretches : StepLaws → PlainIsOneStep
    → (open_to : ℕ → Bool) (l : MemoryMap) (image : List ℕ) (flags : ℕ) (ds : List ℕ) (s t : State)
    → flags < 2 ^ 8 → Execution (IsInterruptibleStep open_to l image flags) ds s t
    → Execution (OneInstruction (IsServing open_to l image flags) flags) ds s t
stretches laws one open_to l image flags [] s t hf h = h
stretches laws one open_to l image flags (d ∷ ds) s t hf h = (
  h.0,
  (
    step_stretch laws one open_to l image flags d s h.0 hf h.1.0,
    stretches laws one open_to l image flags ds h.0 t hf h.1.1,
  ),
)

pub instructions_are_steps : StepLaws → PlainIsOneStep → InstructionsAreSteps
instructions_are_steps laws one open_to l image flags ds s t hf h =
    all_stretches (IsServing open_to l image flags) flags ds s t
    (stretches laws one open_to l image flags ds s t hf h)
