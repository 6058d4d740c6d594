-- The steps of a whole instruction, by the bytes that it touches.
use Rattle.std.proofs.Common.{◌≡◌, ℕ, zero, suc, ◌-◌, ◌^◌, ◌<◌, ◌≤◌, Bool, true, false, Result, Ok, List, [], ◌∷◌}
use Rattle.std.proofs.Common.{length, slice_index, refl, ap, ap₂, sym, ◌∙◌, subst, arith, inl, inr}
use Rattle.std.proofs.lemmas.Bool.{Decides.nat_tests, or_parts}
use Rattle.cpu12_isa.specs.declared.instr.Instr.{Instr, TheVariants.Rev, TheVariants.Revw, TheVariants.Wav}
use Rattle.cpu12_isa.specs.{Act.read_by, Act.outcome, Agreement.AllShown, Code.decode_of, Code.decode_at}
use Rattle.cpu12_isa.specs.{Code.six_from, Code.DecodedHasOpcode, Fits.FitsRegs, Fits.AreBytes, Flags.has}
use Rattle.cpu12_isa.specs.{Flags.interrupts_masked, Memory.plus, Memory.bytes_at, Meaning.Effect, Meaning.plain_act}
use Rattle.cpu12_isa.specs.{Meaning.effect}
use Rattle.cpu12_isa.specs.Regions.{is_hidden}
use Rattle.cpu12_isa.proofs.Algebra.{shown_append}
use Rattle.cpu12_parts.specs.declared.temps.{Temps.Temps, PartEnd.PartEnd, PartEnd.TheVariants.More}
use Rattle.cpu12_parts.specs.Parts.{Kind, rev, revw, wav, part_of, after_part}
use Rattle.cpu12_parts.specs.{State.State, State.Outcome, Inside.second_byte, Laws.addresses, Laws.IsOff}
use Rattle.cpu12_parts.specs.{Averages.wav_read}
use Rattle.cpu12_parts.specs.Laws.{PartsTo, Touches}
use Rattle.cpu12_parts.specs.Fits.{FitsTemps, FitsOutcome, PartFits}
use Rattle.cpu12_parts.proofs.Algebra.{off_fits}
use Rattle.cpu12_parts.specs.Rules.{RuleOperands, Rule, rev_operands, revw_operands, rules_read, rules_written, rules_whole}
use Rattle.cpu12_parts.specs.Touching.{Each, IsPlainOver, IsRulesOver, IsInstructionOver}
use Rattle.cpu12_emul.specs.declared.ends.Stepped.TheVariants.{Plain, LastPart}
use Rattle.cpu12_emul.specs.Simulation.{AreSumsReady, PartIsStep, left_of}
use Rattle.cpu12_emul.specs.Step.{Left, Next, kind_of, step_act, applied}
use Rattle.run_law.specs.Steps.{StepLaws, WriteLaws, RuleLaws, SumLaws}
use Rattle.run_law.proofs.Algebra.{Stretch, one_stretch, part_stretch, kept_sums}
use Rattle.firmware_runs.specs.Within.{IsReached, IsAtPart, IsWithin, InstructionStaysWithin}
use Rattle.eval_code.proofs.Algebra.{all_shown, hidden_unwritten}

-- what each state v keeps within the instruction at s
record UnderWay (kept : ℕ → Bool) (s v : State) : Type 0 where
  size : length v.mem ≡ 65536
  bytes : AreBytes v.mem
  fits : FitsRegs v.regs
  stack : v.regs.sp ≡ s.regs.sp
  mask : has v.regs.ccr interrupts_masked ≡ has s.regs.ccr interrupts_masked
  same : (at : ℕ) → kept at ≡ true → slice_index v.mem at ≡ slice_index s.mem at
  place : IsAtPart s v

begun : (open_to hidden kept : ℕ → Bool) (s : State) → IsReached open_to hidden kept s → UnderWay kept s s
begun open_to hidden kept s c = let between = c.between in
    record {
      size = between.size;
      bytes = between.bytes;
      fits = between.fits;
      stack = refl;
      mask = refl;
      same = λ at k. refl;
      place = inl (refl, refl);
    }

-- sums that do not run are ready
off_ready : (open_to : ℕ → Bool) (v : State) (t : Temps) → IsOff t → AreSumsReady open_to v t
off_ready open_to v t (inl e) = subst (AreSumsReady open_to v) (sym e) tt
off_ready open_to v t (inr e) = subst (AreSumsReady open_to v) (sym e) tt

temps_fit : (s v : State) → IsOff s.temps → IsAtPart s v → FitsTemps v.temps
temps_fit s v off (inl p) = subst FitsTemps (sym p.1) (off_fits s.temps off)
temps_fit s v off (inr p) = let k = kept_sums v.temps p.sums in
    subst FitsTemps (sym k.running) (k.product_fits, k.weight_fits)

-- at WAV's second byte stands $3C, which is shown
sums_ready : DecodedHasOpcode → (open_to hidden kept : ℕ → Bool) (s v : State) → IsReached open_to hidden kept s
    → UnderWay kept s v → IsAtPart s v → AreSumsReady open_to v v.temps
sums_ready opcode open_to hidden kept s v c u (inl p) = let between = c.between in
    off_ready open_to v v.temps (subst IsOff (sym p.1) between.off)
sums_ready opcode open_to hidden kept s v c u (inr p) =
    let k = kept_sums v.temps p.sums in
    let second = plus s.regs.pc 1 in
    let byte : slice_index s.mem second ≡ 60 = (opcode (bytes_at s.mem (six_from s.regs.pc)) Wav p.decoded).1.0 in
    let code : slice_index v.mem v.regs.pc ≡ 60 =
    ap (λ (n : ℕ). slice_index v.mem n) p.pc ∙ u.same second (let own = c.stays in own.1.0) ∙ byte in
    let shown : is_hidden open_to v.regs.sp v.regs.pc ≡ false =
    ap₂ (is_hidden open_to) u.stack p.pc ∙ c.seen second (let own = c.code in own.1.0) in
    subst (AreSumsReady open_to v) (sym k.running) (k.product_fits, k.weight_fits, code, shown)

pub all_seen : (h k : ℕ → Bool) (ats : List ℕ) → ((at : ℕ) → h at ≡ false → k at ≡ false) → AllShown h ats
    → AllShown k ats
all_seen h k [] f a = tt
all_seen h k (at ∷ ats) f a = (f at a.0, all_seen h k ats f a.1)

-- where SP rises no more is shown
rises_covers : (open_to : ℕ → Bool) (low high at : ℕ) → low ≤ high → is_hidden open_to high at ≡ false
    → is_hidden open_to low at ≡ false
rises_covers open_to low high at le h = grind (arith, nat_tests, or_parts)

-- a state under way, by what its step leaves, reads and writes
within : DecodedHasOpcode → (open_to hidden kept : ℕ → Bool) (flags : ℕ) (s v : State) (left : Left)
    → IsReached open_to hidden kept s → UnderWay kept s v
    → outcome (step_act flags v.regs v.temps) v.mem ≡ Ok left → v.regs.sp ≤ left.regs.sp
    → AllShown hidden (read_by (step_act flags v.regs v.temps) v.mem) → AllShown kept (addresses left.writes)
    → IsWithin open_to hidden kept flags s v
within opcode open_to hidden kept flags s v left c u goes rises reads writes =
    let seen : (at : ℕ) → hidden at ≡ false → is_hidden open_to v.regs.sp at ≡ false =
    λ at h. ap (λ (n : ℕ). is_hidden open_to n at) u.stack ∙ c.seen at h in
    record {
      shown = record {
        left = left;
        goes = goes;
        reads = all_seen hidden (is_hidden open_to v.regs.sp) (read_by (step_act flags v.regs v.temps) v.mem) seen
            reads;
        covers = λ at h. inl (rises_covers open_to v.regs.sp left.regs.sp at rises h);
        room = record {
          size = u.size;
          fits = u.fits;
          low = omega (arith, u.stack, c.low);
          high = omega (arith, u.stack, c.high);
        };
        sums = sums_ready opcode open_to hidden kept s v c u u.place;
      };
      reads = reads;
      writes = writes;
      rises = rises;
      stack = u.stack;
      mask = u.mask;
      same = u.same;
      place = u.place;
    }

-- a step that is this part, and reads what it reads
IsPart : Kind → (ℕ → Bool) → ℕ → State → Type 0
IsPart k hidden flags v =
    (outcome (step_act flags v.regs v.temps) v.mem ≡ Ok (left_of (part_of k flags v)))
    × (AllShown hidden (read_by (k.act flags v.regs v.temps) v.mem)
    → AllShown hidden (read_by (step_act flags v.regs v.temps) v.mem))

-- what is known of the parts of an instruction at s
record Parts (k : Kind) (hidden kept : ℕ → Bool) (flags : ℕ) (s : State) : Type 0 where
  fit : PartFits k
  level : (v : State) → (part_of k flags v).regs.sp ≡ v.regs.sp
  is : (v : State) → UnderWay kept s v → IsPart k hidden flags v
  on : (v : State) → UnderWay kept s v → (part_of k flags v).end ≡ More
      → (has (part_of k flags v).regs.ccr interrupts_masked ≡ has v.regs.ccr interrupts_masked)
      × IsAtPart s (after_part k flags v)

bytes_stay : (kept : ℕ → Bool) (s v : State) (ats : List ℕ) → UnderWay kept s v → Each (λ at. kept at ≡ true) ats
    → bytes_at v.mem ats ≡ bytes_at s.mem ats
bytes_stay kept s v [] u h = refl
bytes_stay kept s v (at ∷ ats) u h =
    ap₂ (λ (b : ℕ) (bs : List ℕ). b ∷ bs) (u.same at h.0) (bytes_stay kept s v ats u h.1)

-- a part where PC is at the instruction
part_here : (i : Instr) (k : Kind) → PartIsStep i k → (open_to hidden kept : ℕ → Bool) (flags : ℕ) (s v : State)
    → IsReached open_to hidden kept s → UnderWay kept s v → decode_at s.mem s.regs.pc ≡ Ok i
    → v.regs.pc ≡ s.regs.pc → v.temps ≡ s.temps → IsPart k hidden flags v
unfolding IsPart
part_here i k is_step open_to hidden kept flags s v c u decoded pc temps =
    let between = c.between in
    let own = six_from s.regs.pc in
    let still : decode_at v.mem v.regs.pc ≡ Ok i =
    ap (decode_at v.mem) pc ∙ ap decode_of (bytes_stay kept s v own u c.stays) ∙ decoded in
    let is = is_step flags v (subst IsOff (sym temps) between.off) still in (
      is.0,
      λ h. subst (AllShown hidden) (sym is.1)
          (shown_append hidden (six_from v.regs.pc) (read_by (k.act flags v.regs v.temps) v.mem)
          (subst (λ (n : ℕ). AllShown hidden (six_from n)) (sym pc) (all_shown hidden own c.code)) h),
    )

abbrev pub found : Instr → Result Instr ℕ
found i = Ok i

-- the parts of REV and REVW
rule_parts : (i : Instr) (k : Kind) → RuleLaws i k → (found i ≡ found Wav → ⊥)
    → (open_to hidden kept : ℕ → Bool) (flags : ℕ) (s : State) → IsReached open_to hidden kept s
    → decode_at s.mem s.regs.pc ≡ Ok i → Parts k hidden kept flags s
rule_parts i k laws other open_to hidden kept flags s c decoded = record {
  fit = laws.fits;
  level = λ v. (let steady = laws.steady in steady.stack flags v);
  is = λ v u. is v u u.place;
  on = λ v u more. (let on = laws.goes_on flags v more in (on.0, inl (place v on.1 u.place)));
}
  where
    is : (v : State) → UnderWay kept s v → IsAtPart s v → IsPart k hidden flags v
    is v u (inl p) = part_here i k laws.is_step open_to hidden kept flags s v c u decoded p.0 p.1
    is v u (inr p) = absurd (other (sym decoded ∙ p.decoded))

    place : (v : State) → (part_of k flags v).regs.pc ≡ v.regs.pc → IsAtPart s v
        → ((part_of k flags v).regs.pc ≡ s.regs.pc) × ((part_of k flags v).temps ≡ s.temps)
    place v at (inl p) = (at ∙ p.0, laws.sums flags v ∙ p.1)
    place v at (inr p) = absurd (other (sym decoded ∙ p.decoded))

-- and of WAV
wav_parts : SumLaws → (open_to hidden kept : ℕ → Bool) (flags : ℕ) (s : State) → IsReached open_to hidden kept s
    → decode_at s.mem s.regs.pc ≡ Ok Wav → Parts wav hidden kept flags s
unfolding IsPart
wav_parts laws open_to hidden kept flags s c decoded = record {
  fit = laws.fits;
  level = λ v. (let steady = laws.steady in steady.stack flags v);
  is = λ v u. is v u u.place;
  on = λ v u more.
      (let steady = laws.steady in let on = laws.goes_on flags v more in
      (on.0, inr (record { decoded = decoded; pc = on.1 ∙ second v u.place; sums = steady.temps flags v more })));
}
  where
    is : (v : State) → UnderWay kept s v → IsAtPart s v → IsPart wav hidden flags v
    is v u (inl p) = part_here Wav wav laws.first_is_step open_to hidden kept flags s v c u decoded p.0 p.1
    is v u (inr p) = let k = kept_sums v.temps p.sums in
        let is = laws.sums_are_step flags v k.product k.weight k.running in
        (is.0, λ h. subst (AllShown hidden) (sym is.1) h)

    behind : (t : Temps) → IsOff t → (pc : ℕ) → second_byte t pc ≡ plus pc 1
    behind t (inl e) pc = ap (λ (x : Temps). second_byte x pc) e
    behind t (inr e) pc = ap (λ (x : Temps). second_byte x pc) e

    second : (v : State) → IsAtPart s v → second_byte v.temps v.regs.pc ≡ plus s.regs.pc 1
    second v (inl p) = let between = c.between in
        ap₂ second_byte p.1 p.0 ∙ behind s.temps between.off s.regs.pc
    second v (inr p) = let k = kept_sums v.temps p.sums in ap (λ (x : Temps). second_byte x v.regs.pc) k.running ∙ p.pc

-- the state after a part that goes on
goes_on : WriteLaws → (k : Kind) (open_to hidden kept : ℕ → Bool) (flags : ℕ) (s v : State) → flags < 2 ^ 8
    → IsReached open_to hidden kept s → Parts k hidden kept flags s → UnderWay kept s v
    → (part_of k flags v).end ≡ More → AllShown kept (addresses (part_of k flags v).writes)
    → UnderWay kept s (after_part k flags v)
goes_on writes k open_to hidden kept flags s v hf c parts u more apart =
    let o : Outcome = part_of k flags v in
    let between = c.between in
    let fit : FitsOutcome o = parts.fit flags v hf
    (record { regs = u.fits; temps = temps_fit s v between.off u.place; mem = u.bytes }) in
    let on = parts.on v u more in
    let stay = writes.writes_stay o.writes v.mem in
    record {
      size = stay.0 ∙ u.size;
      bytes = writes.bytes_stay o.writes v.mem fit.writes u.bytes;
      fits = fit.regs;
      stack = parts.level v ∙ u.stack;
      mask = on.0 ∙ u.mask;
      same = λ at t. stay.1 at (hidden_unwritten kept o.writes at apart t) ∙ u.same at t;
      place = on.1;
    }

kinded : Kind → ℕ → State → PartEnd → Result Next ℕ
kinded k flags v e = Ok (record { state = after_part k flags v; kind = kind_of e })

-- the state before a part
before_part : DecodedHasOpcode → (k : Kind) (open_to hidden kept : ℕ → Bool) (flags : ℕ) (s v : State)
    → IsReached open_to hidden kept s → Parts k hidden kept flags s → UnderWay kept s v → Touches k flags hidden kept v
    → IsWithin open_to hidden kept flags s v
unfolding IsPart
before_part opcode k open_to hidden kept flags s v c parts u h =
    let is = parts.is v u in
    within opcode open_to hidden kept flags s v (left_of (part_of k flags v)) c u is.0
    (let e = parts.level v in omega (arith, e)) (is.1 h.0) h.1

parts_are : StepLaws → (k : Kind) (open_to hidden kept : ℕ → Bool) (flags : ℕ) (s : State) → flags < 2 ^ 8
    → IsReached open_to hidden kept s → Parts k hidden kept flags s → (d : ℕ) (v t : State) → UnderWay kept s v
    → PartsTo k flags hidden kept d v t → Stretch (IsWithin open_to hidden kept flags s) flags (suc d) 1 v t
unfolding kinded IsPart
parts_are laws k open_to hidden kept flags s hf c parts zero v t u h =
    let P = IsWithin open_to hidden kept flags s in
    let is = parts.is v u in
    subst (λ (x : State). Stretch P flags 1 1 v x) (sym h.2)
    (one_stretch P flags LastPart v (after_part k flags v) refl
    (before_part laws.decoded_has_opcode k open_to hidden kept flags s v c parts u h.0)
    (ap (λ (x : Result Left ℕ). applied x v.mem) is.0 ∙ ap (kinded k flags v) h.1))
parts_are laws k open_to hidden kept flags s hf c parts (suc n) v t u h =
    let is = parts.is v u in
    part_stretch (IsWithin open_to hidden kept flags s) flags (suc n) v (after_part k flags v) t
    (before_part laws.decoded_has_opcode k open_to hidden kept flags s v c parts u h.0)
    (ap (λ (x : Result Left ℕ). applied x v.mem) is.0 ∙ ap (kinded k flags v) h.1)
    (parts_are laws k open_to hidden kept flags s hf c parts n (after_part k flags v) t
    (goes_on laws.writes k open_to hidden kept flags s v hf c parts u h.1 h.0.1) h.2)

-- a plain instruction
plain_is : StepLaws → (open_to hidden kept : ℕ → Bool) (flags : ℕ) (i : Instr) (s t : State)
    → IsReached open_to hidden kept s → IsPlainOver (λ at. hidden at ≡ false) (λ at. kept at ≡ false) flags i s t
    → s.regs.sp ≤ t.regs.sp → Stretch (IsWithin open_to hidden kept flags s) flags 1 1 s t
plain_is laws open_to hidden kept flags i s t c p rises =
    let P = IsWithin open_to hidden kept flags s in
    let between = c.between in
    let step = p.step in
    let own = six_from s.regs.pc in
    let e : Effect = effect flags i s.regs s.mem in
    let is = laws.plain_is_step flags i s between.off step.decoded step.plain in
    let left : Left = record { regs = e.regs; temps = s.temps; writes = e.writes; kind = Plain } in
    let same : t.regs.sp ≡ e.regs.sp = ap (λ (u : State). u.regs.sp) step.after in
    one_stretch P flags Plain s t refl
    (within laws.decoded_has_opcode open_to hidden kept flags s s left c (begun open_to hidden kept s c) is.0
    (omega (arith, same, rises))
    (subst (AllShown hidden) (sym is.1)
    (shown_append hidden own (read_by (plain_act flags i s.regs) s.mem) (all_shown hidden own c.code)
    (all_shown hidden (read_by (plain_act flags i s.regs) s.mem) p.reads)))
    (all_shown kept (addresses e.writes) p.writes))
    (ap (λ (o : Result Left ℕ). applied o s.mem) is.0 ∙ ap plainly (sym step.after))
  where
    plainly : State → Result Next ℕ
    plainly u = Ok (record { state = u; kind = Plain })

-- REV and REVW, by their parts
rules_are : StepLaws → (i : Instr) (k : Kind) (f : RuleOperands) → RuleLaws i k → (found i ≡ found Wav → ⊥)
    → (open_to hidden kept : ℕ → Bool) (flags d : ℕ) (p : Rule) (ps : List Rule) (s t : State) → flags < 2 ^ 8
    → IsReached open_to hidden kept s
    → IsRulesOver (λ at. hidden at ≡ false) (λ at. kept at ≡ false) i f flags d p ps s t
    → (AllShown hidden (rules_read f s.regs p ps) → AllShown kept (rules_written f p ps)
    → PartsTo k flags hidden kept d s (rules_whole f flags s.regs s.temps s.mem p ps))
    → Stretch (IsWithin open_to hidden kept flags s) flags (suc d) 1 s t
rules_are laws i k f rule other open_to hidden kept flags d p ps s t hf c h whole =
    let step = h.step in
    parts_are laws k open_to hidden kept flags s hf c
    (rule_parts i k rule other open_to hidden kept flags s c step.decoded) d s t (begun open_to hidden kept s c)
    (subst (λ (u : State). PartsTo k flags hidden kept d s u) (sym step.after)
    (whole (all_shown hidden (rules_read f s.regs p ps) h.reads) (all_shown kept (rules_written f p ps) h.writes)))

instruction : StepLaws → (open_to hidden kept : ℕ → Bool) (flags d : ℕ) (s t : State) → flags < 2 ^ 8
    → IsReached open_to hidden kept s
    → IsInstructionOver (λ at. hidden at ≡ false) (λ at. kept at ≡ false) flags d s t → s.regs.sp ≤ t.regs.sp
    → Stretch (IsWithin open_to hidden kept flags s) flags (suc d) 1 s t
instruction laws open_to hidden kept flags d s t hf c (inl p) rises =
    subst (λ (n : ℕ). Stretch (IsWithin open_to hidden kept flags s) flags (suc n) 1 s t) (sym p.1.1)
    (plain_is laws open_to hidden kept flags p.0 s t c p.1.0 rises)
instruction laws open_to hidden kept flags d s t hf c (inr (inl p)) rises =
    let between = c.between in
    let step = p.2.step in
    rules_are laws Rev rev (rev_operands s.regs.y) laws.rev (λ e. cc) open_to hidden kept flags d p.0 p.1 s t hf c p.2
    (laws.rev_is_whole flags s.regs s.temps s.mem p.0 p.1 d hidden kept hf between.fits.ccr step.ready step.parts)
instruction laws open_to hidden kept flags d s t hf c (inr (inr (inl p))) rises =
    let between = c.between in
    let step = p.2.step in
    rules_are laws Revw revw revw_operands laws.revw (λ e. cc) open_to hidden kept flags d p.0 p.1 s t hf c p.2
    (laws.revw_is_whole flags s.regs s.temps s.mem p.0 p.1 d hidden kept hf between.fits.ccr step.ready step.parts)
instruction laws open_to hidden kept flags d s t hf c (inr (inr (inr k))) rises =
    let step = k.step in
    let between = c.between in
    let fits = between.fits in
    let whole = laws.wav_is_whole flags s.regs s.temps s.mem hidden kept hf fits.ccr step.off
    (all_shown hidden (wav_read s.regs) k.reads) in
    let parts : PartsTo wav flags hidden kept d s t =
    subst (λ (n : ℕ). PartsTo wav flags hidden kept n s t) (sym step.parts)
    (subst (λ (u : State). PartsTo wav flags hidden kept (s.regs.b - 1) s u) (sym step.after) whole) in
    parts_are laws wav open_to hidden kept flags s hf c
    (wav_parts laws.wav open_to hidden kept flags s c step.decoded) d s t (begun open_to hidden kept s c) parts

pub instruction_stays_within : StepLaws → InstructionStaysWithin
instruction_stays_within laws open_to hidden kept flags d s t hf c h rises =
    let r = instruction laws open_to hidden kept flags d s t hf c h rises in (r.goes, r.counts, r.each)
