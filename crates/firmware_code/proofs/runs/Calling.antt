-- EVAL called from the code around it, from what it owns.
use Rattle.firmware_code.proofs.Words.{[], ℕ, ⊎_elim, ◌&&◌, ◌*◌, ◌++◌, ◌+◌, ◌<◌, ◌^◌, ◌∙◌, ◌∷◌, ◌≡◌, ◌≤◌, ◌⊎◌}
use Rattle.firmware_code.proofs.Words.{addresses, after_plain, AgreeFrom, AllShown, ap, ap₂, arith, Block, Bool}
use Rattle.firmware_code.proofs.Words.{code_bytes, Each, effect, eval_bytes, Execution, false, Free, get_or, has}
use Rattle.firmware_code.proofs.Words.{HasBytes, HasRoutine, Here, inl, inr, Instr, is_hidden, IsApart, IsInCode}
use Rattle.firmware_code.proofs.Words.{IsInterruptibleStep, IsShownInstruction, IsShut, IsValid, length, length-append}
use Rattle.firmware_code.proofs.Words.{List, Live, MemoryMap, min, nat_le, nat_lt, nat_tests, or_parts, plain_act}
use Rattle.firmware_code.proofs.Words.{plus, read_by, Reads, refl, Rts, rule_bytes, same_bytes, Setting}
use Rattle.firmware_code.proofs.Words.{singleton_bytes, six_from, stack_end, State, sym, table_bytes, weight_bytes}
use Rattle.firmware_code.proofs.Words.{Width, Writes}
use Rattle.cpu12_parts.proofs.Algebra.{execution_on, steps_append}
use Rattle.firmware_code.specs.Calls.{Back, IsCalled}
use Rattle.eval_code.specs.Evaluation.{HasEval, IsAtEval, IsEvaluated, eval_frame, EvalAnswers}
use Rattle.eval_code.proofs.Algebra.{Below, From, apart_by, places_few, each_more, shown_each, written_low}
use Rattle.cpu12_isa.specs.{declared.instr.Instr.TheVariants.Rev, declared.instr.Instr.TheVariants.Revw}
use Rattle.cpu12_parts.specs.{Touching.IsIn, Touching.IsRulesOver, Touching.IsInstructionOver}
use Rattle.eval_code.specs.{Code.eval_code}
use Rattle.firmware_code.specs.{Interruptible.IsShownRules, Settings.ReturnGoesOn, Calls.CalledEvalReturns}
use Rattle.cpu12_parts.specs.Rules.{Rule, RuleOperands, rules_written, rev_operands, revw_operands, rules_read}
use Rattle.firmware_code.proofs.runs.Stepping.{busy_next, low_shown, high_shown, not_at}
use Rattle.eval_code.specs.Frames.{FramesLeave, IsLeft, IsRunIn, IsStepIn}
use Rattle.cpu12_parts.specs.Averages.{wav_read}

-- RTS with the return address on the stack
less_hidden : (open_to : ℕ → Bool) (at : ℕ) → is_hidden open_to 0x2000 at ≡ false → is_hidden open_to 0x1FFE at ≡ false
less_hidden open_to at h =
    let q = or_parts (open_to at) (nat_le 0x1FE0 at && nat_lt at 0x2000) h in
    let t : (nat_le 0x1FE0 at && nat_lt at 0x1FFE) ≡ false = grind (arith, nat_tests, q.1) in
    rw (q.0, t)

pub rts_run : ReturnGoesOn
rts_run c s p ret l ep h es er =
    let e1 : plus s.regs.sp 1 ≡ 0x1FFF = omega arith in
    let e2 : plus s.regs.sp 2 ≡ 0x2000 = omega arith in
    let open_to = c.open_to in
    let r0 : is_hidden open_to s.regs.sp s.regs.sp ≡ false =
    high_shown open_to s.regs.sp s.regs.sp (c.shut.stack s.regs.sp (omega arith) (omega arith)) (omega arith) in
    let r1 : is_hidden open_to s.regs.sp (plus s.regs.sp 1) ≡ false =
    high_shown open_to s.regs.sp (plus s.regs.sp 1) (c.shut.stack (plus s.regs.sp 1) (omega arith) (omega arith))
    (omega arith) in
    busy_next c s p ret Rts l (not_at c.memory_map s p ep h.off) ep h.from h.to h.decoded refl tt (r0, (r1, tt)) tt
    (λ at g. inl (ap (λ k. is_hidden open_to k at) es
    ∙ less_hidden open_to at (ap (λ k. is_hidden open_to k at) (sym e2) ∙ g))) tt (inr e2) refl
    (ap₂ (λ a b. get_or s.mem a 0 * 2 ^ 8 + get_or s.mem b 0) es e1 ∙ er)

-- What is owned is not hidden.
read_apart : (l : MemoryMap) (at : ℕ) → IsApart l → Reads l at → (at < 0x1800) ⊎ (0x2000 ≤ at)
read_apart l at a (inl o) = inl (omega (arith, a.inputs, a.outputs, a.slots, o.1))
read_apart l at a (inr (inl o)) = inl (omega (arith, a.slots, o.1))
read_apart l at a (inr (inr (inl o))) = inr (omega (arith, a.tables, o.0))
read_apart l at a (inr (inr (inr (inl o)))) = inr (omega (arith, a.singletons, o.0))
read_apart l at a (inr (inr (inr (inr (inl o))))) = inr (omega (arith, a.weights, o.0))
read_apart l at a (inr (inr (inr (inr (inr (inl o)))))) = inr (omega (arith, a.rules, o.0))
read_apart l at a (inr (inr (inr (inr (inr (inr o)))))) = absurd o

read_shown : (open_to : ℕ → Bool) (l : MemoryMap) (sp at : ℕ) → IsShut open_to l → IsApart l → sp ≤ 0x2000 → Reads l at
    → is_hidden open_to sp at ≡ false
read_shown open_to l sp at u a h r =
    ⊎_elim (λ low. low_shown open_to sp at (u.reads at r) low)
    (λ high. high_shown open_to sp at (u.reads at r) (omega arith)) (read_apart l at a r)

written_below : (l : MemoryMap) (ats : List ℕ) → IsApart l → Each (Writes l) ats → Below 0x1800 ats
written_below l [] a e = tt
written_below l (at ∷ ats) a e = (written_low l at a e.0, written_below l ats a e.1)

code_above : (l : MemoryMap) (ats : List ℕ) → IsApart l → Each (IsIn (eval_frame l).code) ats → From 0x2000 ats
code_above l [] r e = tt
code_above l (at ∷ ats) r e = (omega (arith, r.eval, e.0.0), code_above l ats r e.1)

-- Neither is what a step of EVAL touches.
shown : (open_to : ℕ → Bool) (l : MemoryMap) (flags d : ℕ) (s t : State) → IsShut open_to l → IsApart l → l.wait < l.eval
    → s.regs.sp ≤ 0x2000 → IsStepIn (eval_frame l) flags d s t → IsShownInstruction open_to l.wait flags d s t
shown open_to l flags d s t u a w sp e = by e.instruction
  where
    reads : (ats : List ℕ) → Each (Reads l) ats → AllShown (is_hidden open_to s.regs.sp) ats
    reads = shown_each (is_hidden open_to s.regs.sp) (Reads l) (λ at r. read_shown open_to l s.regs.sp at u a sp r)

    writes : (n : ℕ) (ats : List ℕ) → Each (Writes l) ats → AllShown (is_hidden open_to n) ats
    writes n = shown_each (is_hidden open_to n) (Writes l)
        (λ at o. low_shown open_to n at (u.writes at o) (written_low l at a o))

    rules : (i : Instr) (f : RuleOperands) (p : Rule) (ps : List Rule) → IsRulesOver (Reads l) (Writes l) i f flags d p ps s t
        → IsShownRules open_to l.wait i f flags d p ps s t
    rules i f p ps k = record {
      step = k.step;
      reads = reads (rules_read f s.regs p ps) k.reads;
      writes = writes s.regs.sp (rules_written f p ps) k.writes;
      below = each_more (Writes l) (λ at. at < 0x2000) (λ at o. (let low = written_low l at a o in omega arith))
          (rules_written f p ps) k.writes;
      itself = apart_by (rules_written f p ps) (six_from s.regs.pc) (written_below l (rules_written f p ps) a k.writes)
          (code_above l (six_from s.regs.pc) a e.code);
      away = (let from = e.code.0.0 in λ q. omega arith);
    }

    by : IsInstructionOver (Reads l) (Writes l) flags d s t → IsShownInstruction open_to l.wait flags d s t
    by (inl p) = let k = p.1.0 in
        inl (
          p.0,
          (
            record {
              step = k.step;
              reads = reads (read_by (plain_act flags p.0 s.regs) s.mem) k.reads;
              writes = writes (min s.regs.sp t.regs.sp) (addresses (effect flags p.0 s.regs s.mem).writes) k.writes;
              uncovers = λ at g. inl (ap (λ n. is_hidden open_to n at) (sym e.stack) ∙ g);
            },
            p.1.1,
          ),
        )
    by (inr (inl p)) = inr (inl (p.0, p.1, rules Rev (rev_operands s.regs.y) p.0 p.1 p.2))
    by (inr (inr (inl p))) = inr (inr (inl (p.0, p.1, rules Revw revw_operands p.0 p.1 p.2)))
    by (inr (inr (inr k))) =
        inr (inr (inr (record {
          step = k.step;
          some = k.some;
          reads = reads (wav_read s.regs) k.reads;
          away = (let next = e.code.1.0.0 in λ q. omega arith);
        })))

-- what the caller adds, and a run leaves
record Alone (image : List ℕ) (s : State) : Type 0 where
  temps : s.temps ≡ Free
  stack : s.regs.sp ≡ 0x1FFE
  unmasked : has s.regs.ccr 4 ≡ false
  same : AgreeFrom stack_end image s.mem

alone_left : (l : MemoryMap) (image : List ℕ) (s t : State) → IsApart l → Alone image s → IsLeft (eval_frame l) s t
    → Alone image t
alone_left l image s t a h left = record {
  temps = left.free h.temps;
  stack = left.stack ∙ h.stack;
  unmasked = ap (λ (m : Bool × Bool). m.0) left.masks ∙ h.unmasked;
  same = λ at le. left.bytes at (λ o. (let low = written_low l at a o in absurd (omega arith))) ∙ h.same at le;
}

interruptible_execution : FramesLeave → (open_to : ℕ → Bool) (l : MemoryMap) (image : List ℕ) (flags : ℕ) (ds : List ℕ)
    (s t : State) → IsShut open_to l → IsApart l → l.wait < l.eval → IsInCode l → Alone image s
    → IsRunIn (eval_frame l) flags ds s t → Execution (IsInterruptibleStep open_to l image flags) ds s t
interruptible_execution leave open_to l image flags [] s t u a w c h e = e
interruptible_execution leave open_to l image flags (d ∷ ds) s t u a w c h r =
    let e = r.1.0 in
    let from = e.code.0.0 in
    let low : s.regs.sp ≤ 0x2000 = omega (arith, h.stack) in
    let left = leave (eval_frame l) flags (d ∷ []) s r.0 (r.0, (e, refl)) in
    let step : IsInterruptibleStep open_to l image flags d s r.0 = record {
      busy = not_at l s s.regs.pc refl (λ q. omega arith);
      interruptible = record {
        temps = h.temps;
        size = e.between.size;
        bytes = e.between.bytes;
        fits = e.between.fits;
        stack = inl h.stack;
        mask = h.unmasked;
        same = h.same;
        code = shown_each (is_hidden open_to s.regs.sp) (IsIn (eval_frame l).code)
            (λ at i. high_shown open_to s.regs.sp at (u.code at (omega (arith, c.from, i.0)) (omega (arith, c.to, i.1)))
            (omega (arith, a.eval, i.0))) (six_from s.regs.pc) e.code;
      };
      instruction = shown open_to l flags d s r.0 u a w low e;
    } in (
      r.0,
      (
        step,
        interruptible_execution leave open_to l image flags ds r.0 t u a w c (alone_left l image s r.0 a h left) r.1.1,
      ),
    )

found : (l : MemoryMap) (b : Block) (w : Width) (image mem : List ℕ) → IsApart l → HasEval l b w image
    → AgreeFrom stack_end image mem
    → HasEval l b w mem
found l b w image mem a h same =
    let low = a.eval in
    let at : (p : ℕ) (bs : List ℕ) → 0x2000 ≤ p → HasBytes image p bs → HasBytes mem p bs =
    λ p bs le hb. same_bytes image mem p bs (λ k lo hi. same k (omega arith)) hb in
    record {
      code = at l.eval (eval_bytes l b w) low h.code;
      tables = at l.tables (table_bytes b) a.tables h.tables;
      singletons = at l.singletons (singleton_bytes b) a.singletons h.singletons;
      weights = at l.weights (weight_bytes b) a.weights h.weights;
      rules = at l.rules (rule_bytes l.slots b) a.rules h.rules;
    }

returned : (c : Setting) (b : Block) (w : Width) (back : ℕ) (bytes : List ℕ) (before : ℕ → ℕ) (s : State)
    → IsApart c.memory_map → IsValid b
    → HasRoutine c.memory_map b w c.image → IsCalled c.open_to c.memory_map b w c.image back bytes before s
    → (t : State) → (g : IsEvaluated c.memory_map b w c.flags bytes before s t)
    → Execution (IsInterruptibleStep c.open_to c.memory_map c.image c.flags) g.ds s t
    → Alone c.image t → Back c b w back bytes before s
returned c b w back bytes before s a v h k t g e alone =
    let l = c.memory_map in
    let p = l.eval + length (code_bytes (eval_code l b w)) in
    let size = h.room in
    let high = a.eval_end in
    let low = a.eval in
    let above = h.above in
    let from = h.inside.from in
    let to = h.inside.to in
    let room = places_few w (length b.outputs) v.few_outputs in
    let slots = h.few_slots in
    let apart1 = a.slots in
    let apart2 = a.outputs in
    let live : Live c t =
    record {
      temps = alone.temps;
      size = g.between.size;
      bytes = g.between.bytes;
      fits = g.between.fits;
      stack =
          inl alone.stack;
      mask = alone.unmasked;
      same = alone.same;
    } in
    let here : Here c p Rts =
    record {
      from = omega arith;
      to = omega arith;
      high = omega arith;
      off = λ e. omega arith;
      fits = tt;
      decoded =
          c.decodes c.image p Rts tt (omega arith) h.back;
    } in
    let far : (at : ℕ) → 0x1800 ≤ at → get_or t.mem at 0 ≡ get_or s.mem at 0 =
    λ at le. g.elsewhere at (inr (omega arith)) (inr (omega arith)) in
    let er : get_or t.mem 0x1FFE 0 * 2 ^ 8 + get_or t.mem 0x1FFF 0 ≡ back =
    ap₂ (λ x y. x * 2 ^ 8 + y) (far 0x1FFE (omega arith)) (far 0x1FFF (omega arith)) ∙ k.back_is in
    let n = rts_run c t p back live g.pc here alone.stack er in
    let u = after_plain c.flags Rts t in
    let W = IsInterruptibleStep c.open_to l c.image c.flags in
    let es : t.regs.sp ≡ 0x1FFE = alone.stack in
    record {
      t = u;
      ds = g.ds ++ 0 ∷ [];
      execution = execution_on W g.ds (0 ∷ []) s t u e (u, (n.step, refl));
      live = n.live;
      pc_is = n.pc_is;
      sp_is = (let q : plus t.regs.sp 2 ≡ 0x2000 = omega arith in q);
      answers = g.answers;
      elsewhere = λ at o z. g.elsewhere at (⊎_elim (λ x. inl x) (λ x. inr (omega arith)) o)
          (⊎_elim (λ x. inl x) (λ x. inr (omega arith)) z);
      instructions = omega (arith, g.instructions, length-append g.ds (0 ∷ []));
      steps = omega (arith, g.steps, steps_append g.ds (0 ∷ []));
    }

pub called : EvalAnswers → FramesLeave → CalledEvalReturns
called go leave c b w back bytes before s a v limits h i k =
    let l = c.memory_map in
    let state = k.interruptible in
    let at : IsAtEval l b w bytes before s =
    record {
      between = record { off = inl state.temps; size = state.size; bytes = state.bytes; fits = state.fits };
      pc = k.pc;
      eval = found l b w c.image s.mem a h.eval state.same;
      inputs = k.inputs;
      outputs = k.outputs;
    } in
    let alone : Alone c.image s =
    record { temps = state.temps; stack = k.sp; unmasked = state.mask; same = state.same } in
    let r = go l b w c.flags bytes before s a v limits c.fits i at in
    let e = r.1 in
    returned c b w back bytes before s a v h k r.0 e
    (interruptible_execution leave c.open_to l c.image c.flags e.ds s r.0 c.shut a h.above h.inside alone e.run)
    (alone_left l c.image s r.0 a alone (leave (eval_frame l) c.flags e.ds s r.0 e.run))
