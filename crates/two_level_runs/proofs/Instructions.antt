-- Whole instructions of the fast code are stretches of its steps.
use Rattle.two_level_runs.proofs.Words.{[], addresses, all_steps, ap, arith, Bool, both_ways, Each, effect, false}
use Rattle.two_level_runs.proofs.Words.{fast_code, fast_map, has, HasFastRom, inl, inr, interrupts_masked, is_foreign}
use Rattle.two_level_runs.proofs.Words.{is_hidden, is_kept, is_open_inside, IsFastStack, IsFastState, IsIn, IsInFast}
use Rattle.two_level_runs.proofs.Words.{IsInstructionOver, joined, length, List, plain_act, read_by, Reads, refl}
use Rattle.two_level_runs.proofs.Words.{six_from, State, Stretch, subst, suc, sym, true, uninterrupted, Writes, ℕ, ◌+◌}
use Rattle.two_level_runs.proofs.Words.{◌<◌, ◌^◌, ◌∙◌, ◌∷◌, ◌≡◌, ◌≤◌}
use Rattle.cpu12_parts.specs.Averages.{wav_read}
use Rattle.cpu12_parts.specs.Rules.{rev_operands, revw_operands, rules_read, rules_written}
use Rattle.firmware_runs.specs.Within.{InstructionStaysWithin, IsReached, IsWithin}
use Rattle.run_law.proofs.Algebra.{no_stretch}
use Rattle.two_level_runs.proofs.Owned.{code_own, own_shown, read_own, rom_kept, write_own}
use Rattle.eval_code.specs.Evaluation.{eval_frame}
use Rattle.eval_code.specs.Frames.{FramesLeave, IsLeft, IsRunIn, IsStepIn}
use Rattle.eval_code.proofs.Algebra.{each_more}

-- what is said of each state before a step
abbrev pub Kept : List ℕ → Bool → ℕ → ℕ → State → Type 0
Kept image masked flags sp s = IsFastState image flags sp s × (has s.regs.ccr interrupts_masked ≡ masked)

-- an instruction of the fast code stands at s
reached : (image : List ℕ) (sp : ℕ) (s : State) → IsInFast image s → s.regs.sp ≡ sp
    → IsReached is_open_inside (is_foreign sp) is_kept s
reached image sp s h e = let room = h.stack in
    record {
      between = h.between;
      low = room.0;
      high = omega (arith, room.1);
      code = each_more (IsIn fast_code) (λ at. is_foreign sp at ≡ false) (code_own sp) (six_from s.regs.pc) h.code;
      stays = each_more (IsIn fast_code) (λ at. is_kept at ≡ true) (λ at i. rom_kept at (omega (arith, i.0)))
          (six_from s.regs.pc) h.code;
      seen = λ at f. ap (λ (n : ℕ). is_hidden is_open_inside n at) e ∙ own_shown sp at (omega (arith, e, room.1)) f;
    }

kept : (image : List ℕ) (masked : Bool) (flags sp : ℕ) (s v : State) → IsInFast image s → s.regs.sp ≡ sp
    → has s.regs.ccr interrupts_masked ≡ masked → IsWithin is_open_inside (is_foreign sp) is_kept flags s v
    → Kept image masked flags sp v
kept image masked flags sp s v h e mask w = (
  record {
    shown = w.shown;
    reads = w.reads;
    writes = w.writes;
    rom = λ at lo hi. w.same at (rom_kept at (omega arith)) ∙ h.rom at lo hi;
    stack = w.stack ∙ e;
    room = subst IsFastStack e h.stack;
  },
  w.mask ∙ mask,
)

own_reads : (sp : ℕ) (ats : List ℕ) → Each (Reads fast_map) ats → Each (λ at. is_foreign sp at ≡ false) ats
own_reads sp = each_more (Reads fast_map) (λ at. is_foreign sp at ≡ false) (read_own sp)

own_writes : (ats : List ℕ) → Each (Writes fast_map) ats → Each (λ at. is_kept at ≡ false) ats
own_writes = each_more (Writes fast_map) (λ at. is_kept at ≡ false) write_own

-- an instruction over the fast block's own bytes
abbrev pub Own : ℕ → ℕ → ℕ → State → State → Type 0
Own sp = IsInstructionOver (λ at. is_foreign sp at ≡ false) (λ at. is_kept at ≡ false)

pub own : (sp flags d : ℕ) (s t : State) → IsInstructionOver (Reads fast_map) (Writes fast_map) flags d s t
    → Own sp flags d s t
own sp flags d s t (inl p) = let k = p.1.0 in
    inl (
      p.0,
      (
        record {
          step = k.step;
          reads = own_reads sp (read_by (plain_act flags p.0 s.regs) s.mem) k.reads;
          writes = own_writes (addresses (effect flags p.0 s.regs s.mem).writes) k.writes;
        },
        p.1.1,
      ),
    )
own sp flags d s t (inr (inl p)) = let k = p.2 in
    inr (inl (
      p.0,
      p.1,
      record {
        step = k.step;
        reads = own_reads sp (rules_read (rev_operands s.regs.y) s.regs p.0 p.1) k.reads;
        writes = own_writes (rules_written (rev_operands s.regs.y) p.0 p.1) k.writes;
      },
    ))
own sp flags d s t (inr (inr (inl p))) = let k = p.2 in
    inr (inr (inl (
      p.0,
      p.1,
      record {
        step = k.step;
        reads = own_reads sp (rules_read revw_operands s.regs p.0 p.1) k.reads;
        writes = own_writes (rules_written revw_operands p.0 p.1) k.writes;
      },
    )))
own sp flags d s t (inr (inr (inr k))) =
    inr (inr (inr (record { step = k.step; some = k.some; reads = own_reads sp (wav_read s.regs) k.reads })))

pub instruction_at : InstructionStaysWithin → (image : List ℕ) (masked : Bool) (flags sp d : ℕ) (s t : State)
    → flags < 2 ^ 8 → IsInFast image s → s.regs.sp ≡ sp → has s.regs.ccr interrupts_masked ≡ masked
    → Own sp flags d s t → s.regs.sp ≤ t.regs.sp → Stretch (Kept image masked flags sp) flags (suc d) 1 s t
instruction_at law image masked flags sp d s t hf h e mask over rises =
    let r = law is_open_inside (is_foreign sp) is_kept flags d s t hf (reached image sp s h e) over rises in
    record {
      goes = r.0;
      counts = r.1;
      each = λ j l. kept image masked flags sp s (uninterrupted flags j s) h e mask (r.2 j l);
    }

-- a run of EVAL leaves the fast block's ROM
pub rom_left : (image : List ℕ) (s t : State) → IsLeft (eval_frame fast_map) s t → HasFastRom image s.mem
    → HasFastRom image t.mem
rom_left image s t left rom at lo hi =
    left.bytes at (λ w. both_ways (is_kept at) (write_own at w) (rom_kept at (omega arith))) ∙ rom at lo hi

-- its instructions
pub instructions_at : InstructionStaysWithin → FramesLeave → (image : List ℕ) (flags sp : ℕ) (ds : List ℕ) (s t : State)
    → flags < 2 ^ 8 → HasFastRom image s.mem → IsFastStack sp → s.regs.sp ≡ sp
    → has s.regs.ccr interrupts_masked ≡ false → IsRunIn (eval_frame fast_map) flags ds s t
    → Stretch (Kept image false flags sp) flags (all_steps ds) (length ds) s t
instructions_at law leave image flags sp [] s t hf rom room stack mask e =
    subst (λ (u : State). Stretch (Kept image false flags sp) flags 0 0 s u) e
    (no_stretch (Kept image false flags sp) flags s)
instructions_at law leave image flags sp (d ∷ ds) s t hf rom room stack mask e =
    let P = Kept image false flags sp in
    let h : IsStepIn (eval_frame fast_map) flags d s e.0 = e.1.0 in
    let left = leave (eval_frame fast_map) flags (d ∷ []) s e.0 (e.0, (h, refl)) in
    let inside : IsInFast image s = record {
      between = h.between;
      rom = rom;
      stack = subst IsFastStack (sym stack) room;
      code = each_more (IsIn (eval_frame fast_map).code) (IsIn fast_code)
          (λ at i. (omega (arith, i.0), omega (arith, i.1))) (six_from s.regs.pc) h.code;
    } in
    let first = instruction_at law image false flags sp d s e.0 hf inside stack mask (own sp flags d s e.0 h.instruction)
    (omega (arith, left.stack)) in
    let rest = instructions_at law leave image flags sp ds e.0 t hf (rom_left image s e.0 left rom) room
    (left.stack ∙ stack) (ap (λ (m : Bool × Bool). m.0) left.masks ∙ mask) e.1.1 in
    let one : 1 + length ds ≡ suc (length ds) = omega arith in
    subst (λ (k : ℕ). Stretch P flags (suc d + all_steps ds) k s t) one
    (joined P flags (suc d) (all_steps ds) 1 (length ds) s e.0 t first rest)
