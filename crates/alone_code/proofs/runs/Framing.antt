-- A sample, from where the code waits back to there.
use Rattle.alone_code.proofs.Words.{ℕ, ◌-◌, ◌^◌, ◌∙◌, ◌≡◌, ◌≤◌, answer, ap, AreInputBytes, arith, Block, false, given}
use Rattle.alone_code.proofs.Words.{HasBytes, Home, instruction_bound, IsApart, IsFramed, IsValid, IsWithinLimits}
use Rattle.alone_code.proofs.Words.{length, List, Setting, State, step_bound, subst, sym, Width}
use Rattle.std.proofs.Common.{◌*◌, ◌++◌, ◌+◌, ◌/◌, get_or, get_or-set_same, inr, length-append, set}
use Rattle.firmware_code.specs.Calls.{Back, HasRoutine, IsCalled, CalledEvalReturns}
use Rattle.eval_code.specs.Widths.{bytes_of}
use Rattle.eval_code.proofs.Algebra.{bytes_put_out, bytes_set_out, has_put, length-put}
use Rattle.cpu12_parts.specs.Executions.{Execution, all_steps}
use Rattle.cpu12_parts.proofs.Algebra.{execution_on, steps_append}
use Rattle.eval_code.specs.Evaluation.{HasAnswers, put}
use Rattle.firmware_code.specs.Interruptible.{IsInterruptibleStep}
use Rattle.firmware_code.specs.Settings.{Live, GivenIsLive}
use Rattle.byte_scaling.specs.Widths.{places}
use Rattle.firmware_code.specs.Frames.{Called, Left, CallsAndLeaves}
use Rattle.firmware_code.proofs.Algebra.{answer_room, pushed_bytes, pushed_word, steady_of}

-- one sample
pub record Sampled (c : Setting) (b : Block) (w : Width) (bytes : List ℕ) (before : ℕ → ℕ) (s : State) : Type 0 where
  pub t : State
  pub ds : List ℕ
  pub execution : Execution (IsInterruptibleStep c.open_to c.memory_map c.image c.flags) ds s t
  pub instructions : length ds ≤ instruction_bound w b
  pub steps : all_steps ds ≤ step_bound w b
  pub home : Home c b w (λ o. answer w b o bytes (before o)) t

-- what a sample stands on
pub record Samples (c : Setting) (b : Block) (w : Width) : Type 0 where
  pub apart : IsApart c.memory_map
  pub valid : IsValid b
  pub limits : IsWithinLimits b
  pub called : CalledEvalReturns
  pub routine : HasRoutine c.memory_map b w c.image
  pub framed : IsFramed c.memory_map
  pub shown : c.open_to c.memory_map.sample_flag ≡ false
  pub turns : CallsAndLeaves c
  pub given : GivenIsLive

-- from EVAL's return on
left : (c : Setting) (b : Block) (w : Width) (bytes : List ℕ) (before : ℕ → ℕ) (s0 : State) → Samples c b w
    → (r : Called c s0) (e : Back c b w (c.memory_map.wait + 8) bytes before r.t) → Left c e.t
    → Sampled c b w bytes before s0
left c b w bytes before s0 h r e f =
    let W = IsInterruptibleStep c.open_to c.memory_map c.image c.flags in
    let u = e.t in
    let lu = e.live.size in
    let a1 = h.framed.ready in
    let a2 = h.apart.inputs in
    let a3 = h.apart.outputs in
    let a4 = h.apart.slots in
    let ds = e.ds ++ f.ds in
    record {
      t = f.t;
      ds = r.ds ++ ds;
      execution = execution_on W r.ds ds s0 r.t f.t r.execution
          (execution_on W e.ds f.ds r.t u f.t e.execution f.execution);
      instructions = omega
          (arith, length-append r.ds ds, length-append e.ds f.ds, r.instructions, e.instructions, f.instructions);
      steps = omega (arith, steps_append r.ds ds, steps_append e.ds f.ds, r.steps, e.steps, f.steps);
      home = record {
        live = f.live;
        pc_is = f.pc_is;
        sp_is = f.sp_is ∙ e.sp_is;
        outs = λ o lo hi.
            subst (λ (m : List ℕ). HasBytes m (c.memory_map.outputs + places w * (o - 1))
            (bytes_of w (answer w b o bytes (before o)))) (sym f.mem_is)
            (bytes_set_out u.mem c.memory_map.sample_flag 0 (c.memory_map.outputs + places w * (o - 1))
            (bytes_of w (answer w b o bytes (before o))) (inr (omega arith)) (e.answers o lo hi));
        ready_is = ap (λ x. get_or x c.memory_map.sample_flag 0) f.mem_is
            ∙ get_or-set_same u.mem c.memory_map.sample_flag 0 0 (omega arith);
      };
    }

-- from where EVAL is called on
evaluated : (c : Setting) (b : Block) (w : Width) (bytes : List ℕ) (before : ℕ → ℕ) (s0 : State) → Samples c b w
    → AreInputBytes b bytes → Live c s0
    → HasBytes s0.mem c.memory_map.inputs bytes → HasAnswers c.memory_map b w before s0.mem → Called c s0
    → Sampled c b w bytes before s0
evaluated c b w bytes before s0 h i l0 hi ho r =
    let few = h.valid.few_inputs in
    let outs = h.valid.few_outputs in
    let n = i.count in
    let a2 = h.apart.inputs in
    let a3 = h.apart.outputs in
    let low = h.apart.eval in
    let high = h.apart.eval_end in
    let from = h.routine.inside.from in
    let to = h.routine.inside.to in
    let ret = c.memory_map.wait + 8 in
    let m1 = set s0.mem 0x1FFE (ret / 2 ^ 8) in
    let keep : HasBytes r.t.mem c.memory_map.inputs bytes =
    subst (λ x. HasBytes x c.memory_map.inputs bytes) (sym r.mem_is)
    (pushed_bytes s0.mem ret c.memory_map.inputs bytes (omega arith) hi) in
    let kept : HasAnswers c.memory_map b w before r.t.mem = λ o lo le.
    (let at = c.memory_map.outputs + places w * (o - 1) in
    let vs = bytes_of w (before o) in
    let room = answer_room w o (before o) lo (omega arith) in
    subst (λ (m : List ℕ). HasBytes m at vs) (sym r.mem_is)
    (pushed_bytes s0.mem ret at vs (omega arith) (ho o lo le))) in
    let pushed : get_or r.t.mem 0x1FFE 0 * 2 ^ 8 + get_or r.t.mem 0x1FFF 0 ≡ ret =
    ap (λ (x : List ℕ). get_or x 0x1FFE 0 * 2 ^ 8 + get_or x 0x1FFF 0) r.mem_is ∙ pushed_word s0.mem ret l0.size in
    let k : IsCalled c.open_to c.memory_map b w c.image ret bytes before r.t =
    record {
      interruptible = steady_of c false r.t r.live (omega (arith, r.pc_is)) (omega (arith, r.pc_is));
      pc =
          r.pc_is;
      sp = r.sp_is;
      back_is = pushed;
      inputs = keep;
      outputs = kept;
    } in
    let e = h.called c b w ret bytes before r.t h.apart h.valid h.limits h.routine i k in
    left c b w bytes before s0 h r e (h.turns.leaves e.t e.live e.pc_is)

pub sample_run : (c : Setting) (b : Block) (w : Width) (bytes : List ℕ) (before : ℕ → ℕ) (s : State) → Samples c b w
    → AreInputBytes b bytes → Home c b w before s
    → Sampled c b w bytes before (given c.memory_map bytes s)
sample_run c b w bytes before s h i home =
    let few = h.valid.few_inputs in
    let outs = h.valid.few_outputs in
    let n = i.count in
    let a1 = h.framed.ready in
    let a2 = h.apart.inputs in
    let a3 = h.apart.outputs in
    let s0 = given c.memory_map bytes s in
    let l0 = h.given c bytes s home.live i.fit (omega arith) (omega arith) in
    let at = h.framed.samples in
    let m = put s.mem c.memory_map.samples bytes in
    let ls = home.live.size in
    let lm : length m ≡ 65536 = length-put s.mem c.memory_map.samples bytes ∙ home.live.size in
    let er : get_or s0.mem c.memory_map.sample_flag 0 ≡ 1 = get_or-set_same m c.memory_map.sample_flag 1 0 (omega arith) in
    let hi : HasBytes s0.mem c.memory_map.inputs bytes =
    bytes_set_out m c.memory_map.sample_flag 1 c.memory_map.inputs bytes (inr (omega arith))
    (subst (λ (p : ℕ). HasBytes m p bytes) at (has_put s.mem c.memory_map.samples bytes (omega arith))) in
    let ho : HasAnswers c.memory_map b w before s0.mem = λ o lo le.
    (let where_from = h.framed.samples in
    let at = c.memory_map.outputs + places w * (o - 1) in
    let vs = bytes_of w (before o) in
    bytes_set_out m c.memory_map.sample_flag 1 at vs (inr (omega arith))
    (bytes_put_out s.mem c.memory_map.samples bytes at vs (inr (omega arith)) (home.outs o lo le))) in
    evaluated c b w bytes before s0 h i l0 hi ho (h.turns.calls s0 l0 home.pc_is home.sp_is er)
