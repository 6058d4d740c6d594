-- The fast code as steps, up to behind its return.
use Rattle.two_level_runs.proofs.Words.{◌+◌, ◌<◌, ◌^◌, ◌∙◌, ◌∷◌, ◌≡◌, ◌≤◌, all_steps, ap, ap₂, arith, Before, Block}
use Rattle.two_level_runs.proofs.Words.{Bool, both_ways, bytes_at, counted, decode_at, Each, false, fast_map}
use Rattle.two_level_runs.proofs.Words.{FastStepsReturn, from, has, inl, inr, interrupts_masked, is_foreign, is_kept}
use Rattle.two_level_runs.proofs.Words.{IsFastRun, IsInFast, joined, length, List, not, Ok, plus, pulled, refl, Regs}
use Rattle.two_level_runs.proofs.Words.{slice_index, State, stepped, Stretch, subst, suc, sym, true, uninterrupted}
use Rattle.two_level_runs.proofs.Words.{zero, ℕ}
use Rattle.cpu12_isa.specs.{declared.instr.Instr.TheVariants.Andcc, declared.instr.Instr.TheVariants.Rti}
use Rattle.cpu12_parts.specs.{Whole.after_plain}
use Rattle.two_level_runs.specs.{Steps.IsOpenState}
use Rattle.firmware_runs.specs.Within.{InstructionStaysWithin}
use Rattle.two_level_runs.proofs.Owned.{frame_shown, stack_kept, write_own}
use Rattle.two_level_runs.proofs.Instructions.{Kept, instruction_at, instructions_at}
use Rattle.eval_code.specs.Evaluation.{eval_frame, IsEvaluated}
use Rattle.eval_code.specs.Frames.{FramesLeave, IsLeft}
use Rattle.eval_code.proofs.Algebra.{unmasked}
use Rattle.cpu12_isa.proofs.Algebra.{bit_and_is}
use Rattle.cpu12_parts.specs.Whole.{IsPlainStep}
use Rattle.byte_scaling.specs.declared.width.Width.TheVariants.{Byte}
use Rattle.std.proofs.Common.{⊎_elim}
use Rattle.two_level_code.specs.Running.{IsEntered}

-- the registers that are pulled hang on the bytes, on SP and on the flags
pulled_same : (r q : Regs) (xs ys : List ℕ) → r.sp ≡ q.sp → xs ≡ ys
    → pulled r xs ≡ pulled (record q { ccr = r.ccr }) ys
pulled_same r q xs ys sp e = ap₂ (λ (bytes : List ℕ) (n : ℕ). pulled (record r { sp = n }) bytes) e sp

-- the return is one step
rti_at : InstructionStaysWithin → (image : List ℕ) (flags sp : ℕ) (s : State) → flags < 2 ^ 8 → IsInFast image s
    → s.regs.sp ≡ sp → has s.regs.ccr interrupts_masked ≡ false → decode_at s.mem s.regs.pc ≡ Ok Rti
    → Stretch (Kept image false flags sp) flags 1 1 s (after_plain flags Rti s)
rti_at law image flags sp s hf h e mask decoded =
    let room = h.stack in
    instruction_at law image false flags sp 0 s (after_plain flags Rti s) hf h e mask
    (inl (
      Rti,
      (
        record {
          step = record { decoded = decoded; plain = refl; after = refl };
          reads = subst (λ (n : ℕ). Each (λ at. is_foreign sp at ≡ false) (from n 9)) (sym e)
              (frame_shown 9 sp sp (omega arith) (omega arith) (omega (arith, e, room.1)) (omega (arith, e, room.0)));
          writes = tt;
        },
        refl,
      ),
    ))
    (omega (arith, room.1))

open_state : (image : List ℕ) (flags sp : ℕ) (s : State) → Kept image false flags sp s → IsOpenState image flags sp s
open_state image flags sp s k = record { state = k.0; unmasked = ap not k.1 }

-- a frame's bytes are kept
frame_kept : (n sp : ℕ) (m k : List ℕ) → 0x1FE0 ≤ sp → sp + n ≤ 0x2000
    → ((at : ℕ) → is_kept at ≡ true → slice_index m at ≡ slice_index k at)
    → bytes_at m (from sp n) ≡ bytes_at k (from sp n)
frame_kept zero sp m k lo hi h = refl
frame_kept (suc n) sp m k lo hi h =
    ap₂ (λ (v : ℕ) (vs : List ℕ). v ∷ vs) (h sp (stack_kept sp lo))
    (frame_kept n (plus sp 1) m k (omega arith) (omega arith) h)

-- ANDCC lets interrupts in
abbrev opened : ℕ → State → State
opened flags s = after_plain flags (Andcc 0xEF) s

-- the run, from ANDCC, the instructions of EVAL and RTI
run_of : (b : Block) (image : List ℕ) (flags : ℕ) (bytes : List ℕ) (before : ℕ → ℕ) (s u : State)
    → IsEntered b image bytes before s → decode_at u.mem u.regs.pc ≡ Ok Rti
    → (e : IsEvaluated fast_map b Byte flags bytes before (opened flags s) u)
    → IsLeft (eval_frame fast_map) (opened flags s) u
    → Stretch (Kept image true flags s.regs.sp) flags 1 1 s (opened flags s)
    → Stretch (Kept image false flags s.regs.sp) flags (all_steps e.ds) (length e.ds) (opened flags s) u
    → Stretch (Kept image false flags s.regs.sp) flags 1 1 u (after_plain flags Rti u)
    → IsFastRun b image flags bytes before s (after_plain flags Rti u)
run_of b image flags bytes before s u entered decoded e left first body last =
    let sp = s.regs.sp in
    let inside = entered.inside in
    let room = inside.stack in
    let ds = e.ds in
    let v = opened flags s in
    let t = after_plain flags Rti u in
    let tail = joined (Kept image false flags sp) flags (all_steps ds) 1 (length ds) 1 v u t body last in
    let further = all_steps ds + 1 in
    let there : stepped flags s ≡ v = first.goes in
    let each : Before (IsOpenState image flags sp) flags further (stepped flags s) =
    subst (Before (IsOpenState image flags sp) flags further) (sym there)
    (λ j l. open_state image flags sp (uninterrupted flags j v) (tail.each j l)) in
    let goes : uninterrupted flags (suc further) s ≡ t = ap (uninterrupted flags further) there ∙ tail.goes in
    let returns : uninterrupted flags further s ≡ u =
    (let q : further ≡ suc (all_steps ds) = omega arith in ap (λ (n : ℕ). uninterrupted flags n s) q)
    ∙ ap (uninterrupted flags (all_steps ds)) there ∙ body.goes in
    let kept_at : (at : ℕ) → is_kept at ≡ true → slice_index t.mem at ≡ slice_index s.mem at =
    λ at k. left.bytes at (λ w. both_ways (is_kept at) (write_own at w) k) in
    let counts : counted flags (suc further) s ≡ suc (length ds + 1) =
    (let c = first.counts in let k = ap (counted flags further) there in omega (arith, c, k, tail.counts)) in
    let x_left : has v.regs.ccr 6 ≡ has s.regs.ccr 6 = bit_and_is s.regs.ccr.0 239 6 in
    let same : bytes_at u.mem (from sp 9) ≡ bytes_at s.mem (from sp 9) =
    frame_kept 9 sp u.mem s.mem (omega (arith, room.0)) room.1 kept_at in
    record {
      further = further;
      goes = goes;
      first = (first.each 0 (omega arith)).0;
      masked = ap not entered.masked;
      each = each;
      returns = subst (λ (w : State). decode_at w.mem w.regs.pc ≡ Ok Rti) (sym returns) decoded;
      ccr = u.regs.ccr;
      x = ap (λ (m : Bool × Bool). m.1) left.masks ∙ x_left;
      regs = pulled_same u.regs s.regs (bytes_at u.mem (from u.regs.sp 9)) (bytes_at s.mem (from sp 9)) left.stack
          (ap (λ (n : ℕ). bytes_at u.mem (from n 9)) left.stack ∙ same);
      off = e.between.off;
      free = left.free;
      answers = e.answers;
      fit = e.between.bytes;
      size = (let between = inside.between in e.between.size ∙ sym between.size);
      kept = kept_at;
      elsewhere = λ at x y. e.elsewhere at (⊎_elim (λ lt. inl lt) (λ le. inr (omega arith)) x) y;
      instructions = omega (arith, counts, e.instructions);
      steps = omega (arith, e.steps);
    }

pub fast_steps_return : InstructionStaysWithin → FramesLeave → FastStepsReturn
fast_steps_return law leave b image flags bytes before s u hf entered r =
    let sp = s.regs.sp in
    let v = opened flags s in
    let e = r.evaluated in
    let inside = entered.inside in
    let off : has v.regs.ccr 4 ≡ false = unmasked s.regs.ccr.0 in
    let left = leave (eval_frame fast_map) flags e.ds v u e.run in
    let andcc : IsPlainStep flags (Andcc 0xEF) s v = record { decoded = r.lets_in; plain = refl; after = refl } in (
      after_plain flags Rti u,
      run_of b image flags bytes before s u entered r.returns e left
          (instruction_at law image true flags sp 0 s v hf inside refl entered.masked
          (inl (Andcc 0xEF, (record { step = andcc; reads = tt; writes = tt }, refl))) (omega arith))
          (instructions_at law leave image flags sp e.ds v u hf inside.rom inside.stack refl off e.run)
          (rti_at law image flags sp u hf r.inside left.stack (ap (λ (m : Bool × Bool). m.0) left.masks ∙ off) r.returns),
    )
