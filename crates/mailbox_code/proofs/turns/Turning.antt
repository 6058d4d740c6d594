-- EVAL is called on the copy, and the code waits again.
use Rattle.mailbox_code.proofs.Words.{[], ℕ, ◌*◌, ◌++◌, ◌+◌, ◌-◌, ◌<◌, ◌^◌, ◌∙◌, ◌∷◌, ◌≡◌, ◌≤◌, after_plain, ap, ap₂}
use Rattle.mailbox_code.proofs.Words.{AreInputBytes, arith, Block, Bool, Bra, bytes_of, execution_on, false, get_or}
use Rattle.mailbox_code.proofs.Words.{get_or-set_other, HasAnswers, HasBytes, Here, if◌then◌else◌, inl, inr}
use Rattle.mailbox_code.proofs.Words.{is_postable, IsApart, IsAt, IsValid, IsWithinLimits, JsrExtended, length}
use Rattle.mailbox_code.proofs.Words.{length-append, List, mailbox_bound, mailbox_map, nat_lt, nat_tests, places, plus}
use Rattle.mailbox_code.proofs.Words.{refl, set, State, steps_by, subst, sym, Width}
use Rattle.std.proofs.Common.{◌%◌, ◌/◌}
use Rattle.firmware_code.specs.Calls.{Back, HasRoutine, IsCalled}
unfoldable use Rattle.eval_code.specs.Bounds.{instruction_bound}
use Rattle.firmware_code.specs.Interruptible.{IsInterruptibleStep}
use Rattle.firmware_code.specs.Settings.{Live, Next}
use Rattle.cpu12_parts.proofs.Algebra.{steps_append}
use Rattle.mailbox_code.specs.Turns.{IsTurned}
use Rattle.firmware_code.proofs.Algebra.{answer_room, pushed_word, pushed_bytes, steady_of}
use Rattle.mailbox_code.proofs.turns.Posting.{Post, post_ctx, lives_of, at_of}

-- what a turn stands on
pub record Turns (p : Post) (b : Block) (w : Width) : Type 0 where
  pub apart : IsApart (mailbox_map p.n)
  pub inputs : length b.inputs ≡ p.n
  pub valid : IsValid b
  pub limits : IsWithinLimits b
  pub routine : HasRoutine (mailbox_map p.n) b w p.image
  pub call : Here (post_ctx p) (0xC014 + 6 * p.n) (JsrExtended (0xC01A + 6 * p.n))
  pub back : Here (post_ctx p) (0xC017 + 6 * p.n) (Bra (239 - 6 * p.n))

abbrev Step : Post → ℕ → State → State → Type 0
Step p = IsInterruptibleStep is_postable (mailbox_map p.n) p.image p.flags

-- BRA
back_to : (n pc : ℕ) → n ≤ 8 → pc ≡ 0xC017 + 6 * n
    → plus (plus pc 2) (if nat_lt (239 - 6 * n) 128 then 239 - 6 * n else 239 - 6 * n + 65280) ≡ 0xC008
back_to n pc few e =
    let far : nat_lt (239 - 6 * n) 128 ≡ false = grind (arith, nat_tests) in
    ap (λ (t : Bool). plus (plus pc 2) (if t then 239 - 6 * n else 239 - 6 * n + 65280)) far ∙ omega arith

bra_run : (p : Post) (s : State) → Live (post_ctx p) s → s.regs.pc ≡ 0xC017 + 6 * p.n
    → Here (post_ctx p) (0xC017 + 6 * p.n) (Bra (239 - 6 * p.n))
    → Next (post_ctx p) s (after_plain p.flags (Bra (239 - 6 * p.n)) s) 0xC008
bra_run p s l e h =
    let few = p.few in
    p.laws.plain (post_ctx p) s (0xC017 + 6 * p.n) 0xC008 (Bra (239 - 6 * p.n)) l e h refl tt tt tt refl refl
    (back_to p.n s.regs.pc p.few e)

-- EVAL is called
record Entered (p : Post) (s : State) : Type 0 where
  t : State
  step : Step p 0 s t
  live : Live (post_ctx p) t
  pc_is : t.regs.pc ≡ 0xC01A + 6 * p.n
  sp_is : t.regs.sp ≡ 0x1FFE
  mem_is : t.mem ≡ set (set s.mem 0x1FFE ((0xC017 + 6 * p.n) / 2 ^ 8)) 0x1FFF ((0xC017 + 6 * p.n) % 2 ^ 8)

enter_run : (p : Post) (s : State) → IsAt p.image (0xC014 + 6 * p.n) s
    → Here (post_ctx p) (0xC014 + 6 * p.n) (JsrExtended (0xC01A + 6 * p.n)) → Entered p s
enter_run p s at h =
    let few = p.few in
    let to = 0xC01A + 6 * p.n in
    let e0 : plus s.regs.sp 65534 ≡ 0x1FFE = omega (arith, at.sp) in
    let e1 : plus s.regs.sp 65535 ≡ 0x1FFF = omega (arith, at.sp) in
    let er : plus s.regs.pc 3 ≡ 0xC017 + 6 * p.n = omega (arith, at.pc) in
    let n = p.laws.calls (post_ctx p) s (0xC014 + 6 * p.n) to (lives_of is_postable false p.image s at.steady)
    at.pc h at.sp in
    record {
      t = after_plain p.flags (JsrExtended to) s;
      step = n.step;
      live = n.live;
      pc_is = n.pc_is;
      sp_is = e0;
      mem_is = ap₂ (λ a b. set (set s.mem a (plus s.regs.pc 3 / 2 ^ 8)) b (plus s.regs.pc 3 % 2 ^ 8)) e0 e1
          ∙ ap (λ r. set (set s.mem 0x1FFE (r / 2 ^ 8)) 0x1FFF (r % 2 ^ 8)) er;
    }

-- the outputs and one more have room in the bound
enough : (b : Block) (w : Width) → length b.outputs ≤ 4 → length b.outputs + 1 ≤ instruction_bound w b
unfolding instruction_bound
enough b w few = omega arith

-- from EVAL's return on
left : (p : Post) (b : Block) (w : Width) (bytes : List ℕ) (before : ℕ → ℕ) (s : State) → Turns p b w
    → IsAt p.image (0xC014 + 6 * p.n) s
    → (r : Entered p s) → Back (post_ctx p) b w (0xC017 + 6 * p.n) bytes before r.t
    → (t : State) × IsTurned (mailbox_map p.n) b w (mailbox_bound w b) p.image p.flags before bytes s t
unfolding steps_by
left p b w bytes before s h at r e =
    let few = p.few in
    let n = bra_run p e.t e.live e.pc_is h.back in
    let u = after_plain p.flags (Bra (239 - 6 * p.n)) e.t in
    let ds = e.ds ++ 0 ∷ [] in
    let ret = 0xC017 + 6 * p.n in
    let m1 = set s.mem 0x1FFE (ret / 2 ^ 8) in
    let below : (q : ℕ) → q < 0x1800 → get_or r.t.mem q 0 ≡ get_or s.mem q 0 = λ q lt.
    (ap (λ (m : List ℕ). get_or m q 0) r.mem_is ∙ get_or-set_other m1 0x1FFF q (ret % 2 ^ 8) 0 (omega arith)
    ∙ get_or-set_other s.mem 0x1FFE q (ret / 2 ^ 8) 0 (omega arith)) in
    let sp : u.regs.sp ≡ 0x2000 = e.sp_is in
    let count = h.inputs in (
      u,
      record {
        ds = 0 ∷ ds;
        execution = (r.t, (r.step, execution_on (Step p) e.ds (0 ∷ []) r.t e.t u e.execution (u, (n.step, refl))));
        at = at_of p 0xC008 u n.live n.pc_is (omega arith) (omega arith) sp;
        answers = e.answers;
        mail = λ q m. (let lo : 0x1020 ≤ q = grind (arith, nat_tests) in
            let hi : q < 0x1029 = grind (arith, nat_tests) in e.elsewhere q (inr (omega arith)) (inl (omega arith))
            ∙ below q (omega arith));
        instructions = omega (arith, length-append e.ds (0 ∷ []), e.instructions);
        steps = omega (arith, steps_append e.ds (0 ∷ []), e.steps, enough b w h.valid.few_outputs);
      },
    )

pub turn_run : (p : Post) (b : Block) (w : Width) (bytes : List ℕ) (before : ℕ → ℕ) (s : State) → Turns p b w
    → AreInputBytes b bytes → IsAt p.image (0xC014 + 6 * p.n) s
    → HasBytes s.mem 0x1001 bytes → HasAnswers (mailbox_map p.n) b w before s.mem
    → (t : State) × IsTurned (mailbox_map p.n) b w (mailbox_bound w b) p.image p.flags before bytes s t
turn_run p b w bytes before s h i at hi ho =
    let few = p.few in
    let inputs = h.inputs in
    let count = i.count in
    let outs = h.valid.few_outputs in
    let ret = 0xC017 + 6 * p.n in
    let l = mailbox_map p.n in
    let size = at.steady.size in
    let r = enter_run p s at h.call in
    let m1 = set s.mem 0x1FFE (ret / 2 ^ 8) in
    let keep : HasBytes r.t.mem 0x1001 bytes =
    subst (λ x. HasBytes x 0x1001 bytes) (sym r.mem_is)
    (pushed_bytes s.mem ret 0x1001 bytes (omega arith) hi) in
    let kept : HasAnswers l b w before r.t.mem = λ o lo le.
    (let q = 0x1010 + places w * (o - 1) in
    let vs = bytes_of w (before o) in
    let room = answer_room w o (before o) lo (omega arith) in
    subst (λ (m : List ℕ). HasBytes m q vs) (sym r.mem_is)
    (pushed_bytes s.mem ret q vs (omega arith) (ho o lo le))) in
    let pushed : get_or r.t.mem 0x1FFE 0 * 2 ^ 8 + get_or r.t.mem 0x1FFF 0 ≡ ret =
    ap (λ (x : List ℕ). get_or x 0x1FFE 0 * 2 ^ 8 + get_or x 0x1FFF 0) r.mem_is ∙ pushed_word s.mem ret size in
    let k : IsCalled is_postable l b w p.image ret bytes before r.t = record {
      interruptible = steady_of (post_ctx p) false r.t r.live (omega (arith, r.pc_is)) (omega (arith, r.pc_is));
      pc = r.pc_is;
      sp = r.sp_is;
      back_is = pushed;
      inputs = keep;
      outputs = kept;
    } in
    left p b w bytes before s h at r
    (p.laws.called (post_ctx p) b w ret bytes before r.t h.apart h.valid h.limits h.routine i k)
