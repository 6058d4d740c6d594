-- A sample of a firmware with watched tables, from where the code waits back to there.
use Rattle.watched_code.proofs.Words.{[], ◌%◌, ◌*◌, ◌++◌, ◌+◌, ◌-◌, ◌<◌, ◌==◌, ◌^◌, ◌∙◌, ◌∷◌, ◌≡◌, ◌≤◌, after_plain}
use Rattle.watched_code.proofs.Words.{answer, ap, ap₂, AreInputBytes, arith, bad_code, Block, Bounded, bounded_on}
use Rattle.watched_code.proofs.Words.{bounded_one, Byte, bytes_set_out, check_byte, Dec, default_of, defaults_code}
use Rattle.watched_code.proofs.Words.{Execution, false, fault_at, get_or, get_or-set_other, get_or-set_same, HasBytes}
use Rattle.watched_code.proofs.Words.{HasRoutine, Home, inl, inr, Instr, instruction_bound, IsApart, IsValid}
use Rattle.watched_code.proofs.Words.{IsWithinLimits, LdabImmediate, length, length-append, length-set, List, Live}
use Rattle.watched_code.proofs.Words.{MemoryMap, None, Option, Output, output_at, refl, Rts, Segment, segment_bytes}
use Rattle.watched_code.proofs.Words.{set, Setting, Some, StabExtended, Stands, State, steps_by, subst, sum_by}
use Rattle.watched_code.proofs.Words.{sum_by-cons, sym, true, ℕ}
use Rattle.std.proofs.{Common.◌/◌}
use Rattle.cpu12_parts.specs.{Executions.all_steps}
use Rattle.eval_code.specs.{Bounds.output_bound, Evaluation.HasAnswers}
use Rattle.firmware_code.specs.Calls.{IsInCode, IsCalled, Back}
use Rattle.firmware_code.specs.{Frames.CallsAndLeaves, Frames.Called}
use Rattle.firmware_code.specs.Frames.{Left}
use Rattle.cpu12_parts.proofs.{Algebra.execution_on, Algebra.steps_append}
use Rattle.watched_code.proofs.{watching.Segments.Apart, watching.Segments.sum_below, watching.Laws.WatchingLaws}
use Rattle.firmware_code.proofs.Algebra.{pushed_word, pushed_bytes}
use Rattle.watched_code.proofs.watching.Adding.{sum_in, count_in, Step}
use Rattle.watched_code.proofs.watching.Checking.{HasCheck, Leads, passed, failed}
use Rattle.watched_code.proofs.watching.Defaults.{Stored, stored, all_defaulted, defaults_run, default_else}
use Rattle.watched_code.proofs.watching.Defaults.{default_there}

-- the same run with another address called; the steps are the same
abbrev pub calls_at : MemoryMap → ℕ → MemoryMap
calls_at l at = record l { eval = at }

abbrev pub calling : Setting → ℕ → Setting
calling c at = record {
  stays_fit = c.stays_fit;
  decodes = c.decodes;
  open_to = c.open_to;
  memory_map = calls_at c.memory_map at;
  shut = record {
    reads = c.shut.reads;
    writes = c.shut.writes;
    stack = c.shut.stack;
    code = c.shut.code;
    low =
        c.shut.low;
    high = c.shut.high;
  };
  image = c.image;
  flags = c.flags;
  fits = c.fits;
}

-- the code before EVAL: the frame, which calls the check, BAD and the check
pub record HasFront (c : Setting) (outputs : List Output) (gs : List Segment) : Type 0 where
  pub at : ℕ
  pub bad : ℕ
  pub to : ℕ
  pub frame : CallsAndLeaves (calling c at)
  pub check : HasCheck c at bad (check_byte (segment_bytes gs)) to gs
  pub bad_stands : Stands c bad (bad_code c.memory_map outputs)
  pub behind : at + 10 * length gs + 9 ≡ c.memory_map.eval

-- what a sample stands on; its instructions are at most so many
pub record Watches (c : Setting) (b : Block) (gs : List Segment) (most : ℕ) : Type 0 where
  pub apart : IsApart c.memory_map
  pub valid : IsValid b
  pub limits : IsWithinLimits b
  pub laws : WatchingLaws
  pub ready : c.memory_map.sample_flag < c.memory_map.inputs
  pub outputs_end : c.memory_map.outputs + 8 ≤ fault_at
  pub slots_from : fault_at < c.memory_map.slots
  pub fault_shown : c.open_to fault_at ≡ false
  pub most_is : instruction_bound Byte b + 4 + count_in gs ≡ most
  pub front : HasFront c b.outputs gs

-- bounds
least : (o : Output) → 9 ≤ output_bound Byte o
least o = by_default o.default refl
  where
    by_default : (d : Option Dec) → o.default ≡ d → 9 ≤ output_bound Byte o
    by_default None e = omega (arith, ap (λ (x : Option Dec). output_bound Byte (record o { default = x })) e)
    by_default (Some d) e = omega (arith, ap (λ (x : Option Dec). output_bound Byte (record o { default = x })) e)

pub bound_some : (b : Block) → IsValid b → 22 ≤ instruction_bound Byte b
unfolding instruction_bound
bound_some b v = by_outputs b.outputs v.some_output refl
  where
    by_outputs : (os : List Output) → 1 ≤ length os → b.outputs ≡ os → 22 ≤ instruction_bound Byte b
    by_outputs [] some e = absurd (omega arith)
    by_outputs (o ∷ os) some e =
        let first : 9 ≤ output_bound Byte o = least o in
        let all = sum_by-cons (output_bound Byte) o os in
        let same : sum_by (output_bound Byte) b.outputs ≡ sum_by (output_bound Byte) (o ∷ os) =
        ap (sum_by (output_bound Byte)) e in
        omega arith

pub steps_more : (b : Block) (n e : ℕ) → 1 + length b.outputs ≤ n → steps_by b (n + e) ≡ steps_by b n + e
unfolding steps_by
steps_more b n e le = omega arith

pub steps_least : (b : Block) (n : ℕ) → n ≤ steps_by b n + 1 + length b.outputs
unfolding steps_by
steps_least b n = omega arith

-- at the check, called from an address, with these bytes of inputs and these answers before
record AtCheck (c : Setting) (b : Block) (at back : ℕ) (bytes : List ℕ) (before : ℕ → ℕ) (s : State) : Type 0 where
  live : Live c s
  pc_is : s.regs.pc ≡ at
  sp_is : s.regs.sp ≡ 0x1FFE
  back_is : get_or s.mem 0x1FFE 0 * 2 ^ 8 + get_or s.mem 0x1FFF 0 ≡ back
  inputs : HasBytes s.mem c.memory_map.inputs bytes
  outputs : HasAnswers c.memory_map b Byte before s.mem

-- behind the return, with the answers and FAULT
record Ended (c : Setting) (b : Block) (most back : ℕ) (answers : ℕ → ℕ) (fault : ℕ) (s : State) : Type 0 where
  t : State
  ds : List ℕ
  execution : Execution (Step c) ds s t
  live : Live c t
  pc_is : t.regs.pc ≡ back
  sp_is : t.regs.sp ≡ 0x2000
  answers_are : HasAnswers c.memory_map b Byte answers t.mem
  fault_is : get_or t.mem fault_at 0 ≡ fault
  instructions : length ds + 5 ≤ most
  steps : all_steps ds + 5 ≤ steps_by b most

-- ---- the tables are what they were: EVAL

eval_called : (c : Setting) (b : Block) (gs : List Segment) (most at back n : ℕ) (bytes : List ℕ) (before : ℕ → ℕ)
    (s : State) → Watches c b gs most → IsInCode c.memory_map → AreInputBytes b bytes
    → AtCheck c b at back bytes before s → (r : Leads c n s c.memory_map.eval (set s.mem fault_at 0))
    → IsCalled c.open_to c.memory_map b Byte c.image back bytes before r.t
eval_called c b gs most at back n bytes before s h inside i k r =
    let l = c.memory_map in
    let from = inside.from in
    let to = inside.to in
    let a1 = h.apart.inputs in
    let a2 = h.outputs_end in
    let few = h.valid.few_outputs in
    let few_inputs = h.valid.few_inputs in
    let count = i.count in
    let low = h.apart.eval in
    let high = h.apart.eval_end in
    let size = k.live.size in
    let e0 : get_or (set s.mem fault_at 0) 0x1FFE 0 ≡ get_or s.mem 0x1FFE 0 =
    get_or-set_other s.mem fault_at 0x1FFE 0 0 (λ q. omega arith) in
    let e1 : get_or (set s.mem fault_at 0) 0x1FFF 0 ≡ get_or s.mem 0x1FFF 0 =
    get_or-set_other s.mem fault_at 0x1FFF 0 0 (λ q. omega arith) in
    record {
      interruptible = h.laws.interruptible c r.t r.live (omega (arith, r.pc_is)) (omega (arith, r.pc_is));
      pc = r.pc_is;
      sp = r.sp_is ∙ k.sp_is;
      back_is = ap (λ (m : List ℕ). get_or m 0x1FFE 0 * 2 ^ 8 + get_or m 0x1FFF 0) r.mem_is
          ∙ ap₂ (λ (x y : ℕ). x * 2 ^ 8 + y) e0 e1 ∙ k.back_is;
      inputs = subst (λ (m : List ℕ). HasBytes m l.inputs bytes) (sym r.mem_is)
          (bytes_set_out s.mem fault_at 0 l.inputs bytes (inl (omega arith)) k.inputs);
      outputs = λ o lo hi. subst (λ (m : List ℕ). HasBytes m (l.outputs + 1 * (o - 1)) (before o ∷ [])) (sym r.mem_is)
          (bytes_set_out s.mem fault_at 0 (l.outputs + 1 * (o - 1)) (before o ∷ []) (inl (omega arith))
          (k.outputs o lo hi));
    }

evaluated_by : (c : Setting) (b : Block) (gs : List Segment) (most back : ℕ) (bytes : List ℕ) (before : ℕ → ℕ)
    (s : State) → Watches c b gs most → length s.mem ≡ 65536
    → (r : Leads c (4 + count_in gs) s c.memory_map.eval (set s.mem fault_at 0)) → Back c b Byte back bytes before r.t
    → Ended c b most back (λ o. answer Byte b o bytes (before o)) 0 s
evaluated_by c b gs most back bytes before s h size r e =
    let ds = r.goes.ds ++ e.ds in
    let few = h.valid.few_outputs in
    let a1 = h.outputs_end in
    let a2 = h.slots_from in
    let total = h.most_is in
    let least = bound_some b h.valid in
    let more = steps_more b (instruction_bound Byte b) (4 + count_in gs) (omega arith) in
    let at_most : steps_by b most ≡ steps_by b (instruction_bound Byte b + (4 + count_in gs)) =
    ap (steps_by b) (omega arith) in
    record {
      t = e.t;
      ds = ds;
      execution = execution_on (Step c) r.goes.ds e.ds s r.t e.t r.goes.execution e.execution;
      live = e.live;
      pc_is = e.pc_is;
      sp_is = e.sp_is;
      answers_are = e.answers;
      fault_is = e.elsewhere fault_at (inr a1) (inl a2) ∙ ap (λ (m : List ℕ). get_or m fault_at 0) r.mem_is
          ∙ get_or-set_same s.mem fault_at 0 0 (omega arith);
      instructions = omega (arith, length-append r.goes.ds e.ds, r.goes.count, e.instructions);
      steps = omega (arith, steps_append r.goes.ds e.ds, r.goes.parts, e.steps);
    }

ended_well : (c : Setting) (b : Block) (gs : List Segment) (most back : ℕ) (bytes : List ℕ) (before : ℕ → ℕ) (s : State)
    → (h : Watches c b gs most) → HasRoutine c.memory_map b Byte c.image
    → AreInputBytes b bytes → AtCheck c b h.front.at back bytes before s
    → ((sum_in s.mem gs + check_byte (segment_bytes gs)) % 2 ^ 8 == 0) ≡ true
    → Ended c b most back (λ o. answer Byte b o bytes (before o)) 0 s
ended_well c b gs most back bytes before s h routine i k fine =
    let f = h.front in
    let p = passed h.laws c s f.at f.bad (check_byte (segment_bytes gs)) f.to gs f.check k.live k.pc_is fine in
    let r : Leads c (4 + count_in gs) s c.memory_map.eval (set s.mem fault_at 0) =
    record { t = p.t; goes = p.goes; live = p.live; pc_is = p.pc_is ∙ f.behind; sp_is = p.sp_is; mem_is = p.mem_is } in
    evaluated_by c b gs most back bytes before s h k.live.size r
    (h.laws.called c b Byte back bytes before r.t h.apart h.valid h.limits routine i
    (eval_called c b gs most f.at back (4 + count_in gs) bytes before s h routine.inside i k r))

-- ---- they are not: BAD

-- before the defaults
marked : WatchingLaws → (c : Setting) (s : State) (bad : ℕ) (rest : List Instr) → c.open_to fault_at ≡ false
    → Live c s → s.regs.pc ≡ bad → Stands c bad (LdabImmediate 1 ∷ StabExtended fault_at ∷ rest)
    → Stored c 2 s (set s.mem fault_at 1) rest
marked laws c s bad rest shown l ep h = stored laws c s bad fault_at 1 rest l ep h (omega arith) shown

-- what memory holds behind them
defaults_stand : (l : MemoryMap) (b : Block) (before : ℕ → ℕ) (m : List ℕ) → length b.outputs ≤ 4
    → l.outputs + 8 ≤ fault_at → length m ≡ 65536 → HasAnswers l b Byte before m
    → HasAnswers l b Byte (λ o. default_of (output_at b o) (before o))
    (all_defaulted (set m fault_at 1) l.outputs b.outputs)
defaults_stand l b before m few end size h o lo hi =
    let n = set m fault_at 1 in
    let at = l.outputs + 1 * (o - 1) in
    let e : at ≡ l.outputs + (o - 1) = omega arith in
    let sized = length-set m fault_at 1 in
    let was : get_or n (l.outputs + (o - 1)) 0 ≡ before o =
    get_or-set_other m fault_at (l.outputs + (o - 1)) 1 0 (λ q. omega arith) ∙ ap (λ (k : ℕ). get_or m k 0) (sym e)
    ∙ (h o lo hi).0 in (
      ap (λ (k : ℕ). get_or (all_defaulted n l.outputs b.outputs) k 0) e
          ∙ default_there n l.outputs b.outputs (o - 1) (omega arith) (omega arith)
          ∙ ap (default_of (output_at b o)) was,
      tt,
    )

defaulted_by : (c : Setting) (b : Block) (gs : List Segment) (most at back : ℕ) (bytes : List ℕ) (before : ℕ → ℕ)
    (s : State) → Watches c b gs most → AtCheck c b at back bytes before s
    → (bad : ℕ) → (r : Leads c (3 + count_in gs) s bad s.mem)
    → (m : Stored c 2 r.t (set r.t.mem fault_at 1) (defaults_code c.memory_map.outputs b.outputs ++ Rts ∷ []))
    → Stored c (2 * length b.outputs) m.t (all_defaulted m.t.mem c.memory_map.outputs b.outputs) (Rts ∷ [])
    → Ended c b most back (λ o. default_of (output_at b o) (before o)) 1 s
defaulted_by c b gs most at back bytes before s h k bad r m d =
    let l = c.memory_map in
    let os = b.outputs in
    let few = h.valid.few_outputs in
    let a1 = h.outputs_end in
    let size = k.live.size in
    let mem : d.t.mem ≡ all_defaulted (set s.mem fault_at 1) l.outputs os =
    d.mem_is ∙ ap (λ (x : List ℕ). all_defaulted x l.outputs os)
    (m.mem_is ∙ ap (λ (x : List ℕ). set x fault_at 1) r.mem_is) in
    let far : (q : ℕ) → fault_at < q → get_or d.t.mem q 0 ≡ get_or s.mem q 0 =
    λ q lt. ap (λ (x : List ℕ). get_or x q 0) mem
    ∙ default_else (set s.mem fault_at 1) l.outputs os q (inr (omega arith))
    ∙ get_or-set_other s.mem fault_at q 1 0 (λ e. omega arith) in
    let sp : d.t.regs.sp ≡ 0x1FFE = d.sp_is ∙ m.sp_is ∙ r.sp_is ∙ k.sp_is in
    let word : get_or d.t.mem 0x1FFE 0 * 2 ^ 8 + get_or d.t.mem 0x1FFF 0 ≡ back =
    ap₂ (λ (x y : ℕ). x * 2 ^ 8 + y) (far 0x1FFE (omega arith)) (far 0x1FFF (omega arith)) ∙ k.back_is in
    let n = h.laws.returns c d.t d.at back d.live d.pc_is d.behind.0 sp word in
    let u = after_plain c.flags Rts d.t in
    let goes : Bounded (Step c) (3 + count_in gs + (2 + (2 * length os + 1))) 0 s u =
    bounded_on (Step c) (3 + count_in gs) 0 (2 + (2 * length os + 1)) 0 s r.t u r.goes
    (bounded_on (Step c) 2 0 (2 * length os + 1) 0 r.t m.t u m.goes
    (bounded_on (Step c) (2 * length os) 0 1 0 m.t d.t u d.goes (bounded_one (Step c) 0 d.t u n.step))) in
    let total = h.most_is in
    let least = bound_some b h.valid in
    let steps = steps_least b most in
    record {
      t = u;
      ds = goes.ds;
      execution = goes.execution;
      live = n.live;
      pc_is = n.pc_is;
      sp_is = (let q : (d.t.regs.sp + 2) % 2 ^ 16 ≡ 0x2000 = omega arith in q);
      answers_are = subst (HasAnswers l b Byte (λ o. default_of (output_at b o) (before o))) (sym mem)
          (defaults_stand l b before s.mem few a1 size k.outputs);
      fault_is = ap (λ (x : List ℕ). get_or x fault_at 0) mem
          ∙ default_else (set s.mem fault_at 1) l.outputs os fault_at (inr (omega arith))
          ∙ get_or-set_same s.mem fault_at 1 0 (omega arith);
      instructions = omega (arith, goes.count);
      steps = omega (arith, goes.parts);
    }

ended_badly : (c : Setting) (b : Block) (gs : List Segment) (most back : ℕ) (bytes : List ℕ) (before : ℕ → ℕ)
    (s : State) → (h : Watches c b gs most)
    → AtCheck c b h.front.at back bytes before s
    → ((sum_in s.mem gs + check_byte (segment_bytes gs)) % 2 ^ 8 == 0) ≡ false
    → Ended c b most back (λ o. default_of (output_at b o) (before o)) 1 s
ended_badly c b gs most back bytes before s h k wrong =
    let f = h.front in
    let l = c.memory_map in
    let few = h.valid.few_outputs in
    let a1 = h.outputs_end in
    let r = failed h.laws c s f.at f.bad (check_byte (segment_bytes gs)) f.to gs f.check k.live k.pc_is wrong in
    let m = marked h.laws c r.t f.bad (defaults_code l.outputs b.outputs ++ Rts ∷ []) h.fault_shown r.live r.pc_is
    f.bad_stands in
    defaulted_by c b gs most f.at back bytes before s h k f.bad r m
    (defaults_run h.laws c m.t m.at l.outputs b.outputs (Rts ∷ []) m.live m.pc_is m.behind (omega arith)
    (λ q lo hi. c.shut.writes q (inl (lo, omega arith))))

-- ---- around both

-- one sample
pub record WatchSampled (c : Setting) (b : Block) (most : ℕ) (answers : ℕ → ℕ) (fault : ℕ) (s : State) : Type 0 where
  pub t : State
  pub ds : List ℕ
  pub execution : Execution (Step c) ds s t
  pub home : Home c b Byte answers t
  pub fault_is : get_or t.mem fault_at 0 ≡ fault
  pub instructions : length ds ≤ most
  pub steps : all_steps ds ≤ steps_by b most

at_check : (c : Setting) (b : Block) (gs : List Segment) (most : ℕ) (bytes : List ℕ) (before : ℕ → ℕ) (s : State)
    → (h : Watches c b gs most) → AreInputBytes b bytes → Live c s
    → HasBytes s.mem c.memory_map.inputs bytes → HasAnswers c.memory_map b Byte before s.mem
    → (r : Called (calling c h.front.at) s)
    → AtCheck c b h.front.at (c.memory_map.wait + 8) bytes before r.t
at_check c b gs most bytes before s h i l hi ho r =
    let ret = c.memory_map.wait + 8 in
    let few = h.valid.few_outputs in
    let few_inputs = h.valid.few_inputs in
    let count = i.count in
    let a1 = h.apart.inputs in
    let a2 = h.outputs_end in
    record {
      live = r.live;
      pc_is = r.pc_is;
      sp_is = r.sp_is;
      back_is = ap (λ (x : List ℕ). get_or x 0x1FFE 0 * 2 ^ 8 + get_or x 0x1FFF 0) r.mem_is
          ∙ pushed_word s.mem ret l.size;
      inputs = subst (λ (m : List ℕ). HasBytes m c.memory_map.inputs bytes) (sym r.mem_is)
          (pushed_bytes s.mem ret c.memory_map.inputs bytes (omega arith) hi);
      outputs = λ o lo le. subst (λ (m : List ℕ). HasBytes m (c.memory_map.outputs + 1 * (o - 1)) (before o ∷ []))
          (sym r.mem_is)
          (pushed_bytes s.mem ret (c.memory_map.outputs + 1 * (o - 1)) (before o ∷ []) (omega arith) (ho o lo le));
    }

returned : (c : Setting) (b : Block) (gs : List Segment) (most : ℕ) (answers : ℕ → ℕ) (fault : ℕ) (s : State)
    → (h : Watches c b gs most) → (r : Called (calling c h.front.at) s)
    → (e : Ended c b most (c.memory_map.wait + 8) answers fault r.t) → Left (calling c h.front.at) e.t
    → WatchSampled c b most answers fault s
returned c b gs most answers fault s h r e f =
    let ds = e.ds ++ f.ds in
    let few = h.valid.few_outputs in
    let a1 = h.ready in
    let a2 = h.apart.inputs in
    let a3 = h.outputs_end in
    let size = e.live.size in
    let mem = f.mem_is in
    record {
      t = f.t;
      ds = r.ds ++ ds;
      execution = execution_on (Step c) r.ds ds s r.t f.t r.execution
          (execution_on (Step c) e.ds f.ds r.t e.t f.t e.execution f.execution);
      home = record {
        live = f.live;
        pc_is = f.pc_is;
        sp_is = f.sp_is ∙ e.sp_is;
        outs = λ o lo hi. subst (λ (m : List ℕ). HasBytes m (c.memory_map.outputs + 1 * (o - 1)) (answers o ∷ []))
            (sym mem)
            (bytes_set_out e.t.mem c.memory_map.sample_flag 0 (c.memory_map.outputs + 1 * (o - 1)) (answers o ∷ [])
            (inr (omega arith)) (e.answers_are o lo hi));
        ready_is = ap (λ (x : List ℕ). get_or x c.memory_map.sample_flag 0) mem
            ∙ get_or-set_same e.t.mem c.memory_map.sample_flag 0 0 (omega arith);
      };
      fault_is = ap (λ (x : List ℕ). get_or x fault_at 0) mem
          ∙ get_or-set_other e.t.mem c.memory_map.sample_flag fault_at 0 0 (λ q. omega arith) ∙ e.fault_is;
      instructions = omega
          (arith, length-append r.ds ds, length-append e.ds f.ds, r.instructions, e.instructions, f.instructions);
      steps = omega (arith, steps_append r.ds ds, steps_append e.ds f.ds, r.steps, e.steps, f.steps);
    }

-- where a sample is given: READY is 1, and the bytes stand
pub record IsGiven (c : Setting) (b : Block) (bytes : List ℕ) (before : ℕ → ℕ) (s : State) : Type 0 where
  pub live : Live c s
  pub pc_is : s.regs.pc ≡ c.memory_map.wait
  pub sp_is : s.regs.sp ≡ 0x2000
  pub ready_is : get_or s.mem c.memory_map.sample_flag 0 ≡ 1
  pub inputs : HasBytes s.mem c.memory_map.inputs bytes
  pub outputs : HasAnswers c.memory_map b Byte before s.mem

call : (c : Setting) (b : Block) (gs : List Segment) (most : ℕ) (bytes : List ℕ) (before : ℕ → ℕ) (s : State)
    → (h : Watches c b gs most) → IsGiven c b bytes before s → Called (calling c h.front.at) s
call c b gs most bytes before s h g =
    h.front.frame.calls s g.live g.pc_is g.sp_is g.ready_is

leave : (c : Setting) (b : Block) (gs : List Segment) (most : ℕ) (answers : ℕ → ℕ) (fault : ℕ) (s : State)
    → (h : Watches c b gs most)
    → (e : Ended c b most (c.memory_map.wait + 8) answers fault s) → Left (calling c h.front.at) e.t
leave c b gs most answers fault s h e =
    h.front.frame.leaves e.t e.live e.pc_is

-- the sum that the check makes is that where the sample is given
called_sum : (c : Setting) (at : ℕ) (s : State) (gs : List Segment) → Apart 0x2000 gs → (r : Called (calling c at) s)
    → sum_in r.t.mem gs ≡ sum_in s.mem gs
called_sum c at s gs apart r =
    let ret = c.memory_map.wait + 8 in
    ap (λ (m : List ℕ). sum_in m gs) r.mem_is
    ∙ sum_below (set s.mem 0x1FFE (ret / 2 ^ 8)) 0x1FFF (ret % 2 ^ 8) 0x2000 gs apart (omega arith)
    ∙ sum_below s.mem 0x1FFE (ret / 2 ^ 8) 0x2000 gs apart (omega arith)

pub answered_well : (c : Setting) (b : Block) (gs : List Segment) (most : ℕ) (bytes : List ℕ) (before : ℕ → ℕ)
    (s : State) → (h : Watches c b gs most) → Apart 0x2000 gs
    → HasRoutine c.memory_map b Byte c.image → AreInputBytes b bytes → IsGiven c b bytes before s
    → ((sum_in s.mem gs + check_byte (segment_bytes gs)) % 2 ^ 8 == 0) ≡ true
    → WatchSampled c b most (λ o. answer Byte b o bytes (before o)) 0 s
answered_well c b gs most bytes before s h apart routine i g fine =
    let r = call c b gs most bytes before s h g in
    let k = at_check c b gs most bytes before s h i g.live g.inputs g.outputs r in
    let same = called_sum c h.front.at s gs apart r in
    let e = ended_well c b gs most (c.memory_map.wait + 8) bytes before r.t h routine i k
    (ap (λ (n : ℕ). (n + check_byte (segment_bytes gs)) % 2 ^ 8 == 0) same ∙ fine) in
    returned c b gs most (λ o. answer Byte b o bytes (before o)) 0 s h r e (leave c b gs most _ 0 r.t h e)

pub answered_badly : (c : Setting) (b : Block) (gs : List Segment) (most : ℕ) (bytes : List ℕ) (before : ℕ → ℕ)
    (s : State) → (h : Watches c b gs most) → Apart 0x2000 gs
    → AreInputBytes b bytes → IsGiven c b bytes before s
    → ((sum_in s.mem gs + check_byte (segment_bytes gs)) % 2 ^ 8 == 0) ≡ false
    → WatchSampled c b most (λ o. default_of (output_at b o) (before o)) 1 s
answered_badly c b gs most bytes before s h apart i g wrong =
    let r = call c b gs most bytes before s h g in
    let k = at_check c b gs most bytes before s h i g.live g.inputs g.outputs r in
    let same = called_sum c h.front.at s gs apart r in
    let e = ended_badly c b gs most (c.memory_map.wait + 8) bytes before r.t h k
    (ap (λ (n : ℕ). (n + check_byte (segment_bytes gs)) % 2 ^ 8 == 0) same ∙ wrong) in
    returned c b gs most (λ o. default_of (output_at b o) (before o)) 1 s h r e (leave c b gs most _ 1 r.t h e)
