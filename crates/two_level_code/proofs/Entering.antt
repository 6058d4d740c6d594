-- The fast code from where an interrupt enters it up to its return.
use Rattle.std.proofs.Common.{inl, inr, ℕ, ◌≤◌, sym, ap, ◌∙◌, subst, arith}
use Rattle.cpu12_isa.specs.declared.instr.Instr.TheVariants.{Andcc, Rti}
use Rattle.cpu12_isa.specs.{Code.decode_at, Code.StandsAt, Fits.StaysFit}
use Rattle.cpu12_parts.specs.{State.State, Touching.IsIn, Whole.after_plain}
use Rattle.byte_scaling.specs.declared.width.Width.TheVariants.{Byte}
use Rattle.eval_code.specs.Evaluation.{Writes, eval_frame, IsAtEval, EvalAnswers}
use Rattle.eval_code.specs.Frames.{FramesLeave}
use Rattle.eval_code.proofs.Algebra.{six_each}
use Rattle.two_level_code.specs.Running.{HasFastRom, IsFastStack, fast_code, FastAnswersEntered}
use Rattle.two_level_code.specs.{Images.joint_memory, MemoryMaps.fast_map}
use Rattle.two_level_code.proofs.{Places.fast_apart, Places.AreAccepted}
use Rattle.two_level_code.proofs.FastRom.{CodeLaws, standing, first_decoded}

-- the laws of lower crates
pub record EnteringLaws : Type 0 where
  pub code : CodeLaws
  pub eval_answers : EvalAnswers
  pub frames_leave : FramesLeave
  pub stays_fit : StaysFit

-- what EVAL writes is below its code
written_low : (at : ℕ) → fast_map.code ≤ at → Writes fast_map at → ⊥
written_low at from (inl o) = absurd (omega (arith, o.1))
written_low at from (inr (inl o)) = absurd (omega (arith, o.1))
written_low at from (inr (inr o)) = o

-- ANDCC lets interrupts in, and EVAL leads to RTI
pub fast_answers_entered : EnteringLaws → FastAnswersEntered
fast_answers_entered laws slow fast two vs ls vf lf is flags bytes before s fits input h =
    let lower = laws.code in
    let accepted : AreAccepted slow fast = record {
      slow_valid = vs;
      slow_limits = ls;
      fast_valid = vf;
      fast_limits = lf;
    } in
    let inside = h.inside in
    let between = inside.between in
    let code = standing lower slow fast two s.mem accepted is inside.rom in
    let opened : State = after_plain flags (Andcc 0xEF) s in
    let at : IsAtEval fast_map fast Byte bytes before opened =
    record {
      between = record {
        off = between.off;
        size = between.size;
        bytes = between.bytes;
        fits = (laws.stays_fit flags (Andcc 0xEF) s.regs s.mem fits (omega arith) between.fits between.bytes).0;
      };
      pc = omega (arith, h.pc);
      eval = code.eval;
      inputs = h.inputs;
      outputs = h.outputs;
    } in
    let r = laws.eval_answers fast_map fast Byte flags bytes before opened fast_apart vf lf fits input at in
    let t : State = r.0 in
    let e = r.1 in
    let left = laws.frames_leave (eval_frame fast_map) flags e.ds opened t e.run in
    let rom : HasFastRom (joint_memory two) t.mem =
    λ k from to. left.bytes k (written_low k from) ∙ inside.rom k from to in
    let behind = standing lower slow fast two t.mem accepted is rom in
    let room = behind.room in
    let pc = e.pc in (
      t,
      record {
        lets_in = ap (decode_at s.mem) h.pc ∙ first_decoded lower fast s.mem code;
        evaluated = e;
        inside = record {
          between = e.between;
          rom = rom;
          stack = subst IsFastStack (sym left.stack) inside.stack;
          code = six_each (IsIn fast_code) t.regs.pc (omega arith) (λ k lo hi. (omega arith, omega arith));
        };
        returns = lower.decodes t.mem t.regs.pc Rti tt
            (subst (λ (k : ℕ). StandsAt t.mem k Rti) (sym pc) (behind.back.0, tt));
      },
    )
