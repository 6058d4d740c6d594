-- The frame, from where the code waits to what it calls, and back.
use Rattle.firmware_code.proofs.Words.{[], ℕ, ◌%◌, ◌&&◌, ◌*◌, ◌+◌, ◌-◌, ◌/◌, ◌<◌, ◌==◌, ◌^◌, ◌∙◌, ◌∷◌, ◌≡◌, ◌≤◌, ◌⊎◌}
use Rattle.firmware_code.proofs.Words.{after_plain, ap, ap₂, arith, Beq, Bool, Bra, Byte, bytes_after_set, bytes_of}
use Rattle.firmware_code.proofs.Words.{bytes_set_out, cases_eq, ClrExtended, code_room, decode_at, false, get_or}
use Rattle.firmware_code.proofs.Words.{get_or-set_other, get_or-set_same, has, HasBytes, Here, high_set, inl, inr}
use Rattle.firmware_code.proofs.Words.{is_hidden, is_idle, JsrExtended, LdaaExtended, length, length-set, List, Live}
use Rattle.firmware_code.proofs.Words.{MemoryMap, min, nat_le, nat_lt, nat_tests, Next, Ok, or_parts, places, plus}
use Rattle.firmware_code.proofs.Words.{refl, set, Setting, Stands, State, sym, true, Width, Word}
use Rattle.eval_code.specs.Evaluation.{put}
use Rattle.eval_code.proofs.Algebra.{length-put, masked_four, masked_tested, zero_tested}
use Rattle.std.specs.Prelude.{if◌then◌else◌}
use Rattle.cpu12_isa.specs.{Agreement.IsWritten}
use Rattle.eval_code.proofs.{Algebra.bytes_after_put, Algebra.high_put}
use Rattle.firmware_code.specs.{Frames.Called, Frames.Left}
use Rattle.firmware_code.specs.Settings.{CallGoesOn, GivenIsLive, LiveIsIdle}
use Rattle.firmware_code.proofs.runs.Stepping.{next, busy_next, goes_one, goes_on, low_shown}
use Rattle.firmware_code.proofs.runs.Stepping.{high_shown, not_at}

-- the code around EVAL
pub record HasFrame (c : Setting) : Type 0 where
  pub ready : c.memory_map.sample_flag < c.memory_map.inputs
  pub samples : c.memory_map.samples ≡ c.memory_map.inputs
  pub shown : c.open_to c.memory_map.sample_flag ≡ false
  pub from : c.memory_map.code ≤ c.memory_map.wait
  pub to : c.memory_map.wait + 40 ≤ c.memory_map.code + code_room
  pub load : decode_at c.image c.memory_map.wait ≡ Ok (LdaaExtended c.memory_map.sample_flag)
  pub rest : Stands c (c.memory_map.wait + 3)
      (Beq 0xFB ∷ JsrExtended c.memory_map.eval ∷ ClrExtended c.memory_map.sample_flag ∷ Bra 0xF3 ∷ [])

-- an answer's bytes stay within the outputs'
pub answer_room : (w : Width) (o v : ℕ) → 1 ≤ o → o ≤ 4 → places w * (o - 1) + length (bytes_of w v) ≤ 8
answer_room Byte o v lo hi = omega arith
answer_room Word o v lo hi = omega arith

and_false : (x : Bool) → (x && false) ≡ false
and_false true = refl
and_false false = refl

pub not_ready : (l : MemoryMap) (s : State) → get_or s.mem l.sample_flag 0 ≡ 1 → is_idle l s ≡ false
not_ready l s h = let a : (get_or s.mem l.sample_flag 0 == 0) ≡ false = grind (arith, nat_tests) in
    rw a (and_false (s.regs.pc == l.wait))

pub idles : (l : MemoryMap) (s : State) → s.regs.pc ≡ l.wait → get_or s.mem l.sample_flag 0 ≡ 0 → is_idle l s ≡ true
idles l s e h =
    let a : (s.regs.pc == l.wait) ≡ true = grind (arith, nat_tests) in
    let b : (get_or s.mem l.sample_flag 0 == 0) ≡ true = grind (arith, nat_tests) in
    rw (a, b)

pub live_is_idle : LiveIsIdle
live_is_idle c s live e h = idles c.memory_map s e h

-- JSR from an empty stack
jsr_uncovers : (open_to : ℕ → Bool) (sp a b at : ℕ) → sp ≡ 0x2000 → is_hidden open_to (plus sp 65534) at ≡ false
    → (is_hidden open_to sp at ≡ false) ⊎ IsWritten ((plus sp 65534, a) ∷ (plus sp 65535, b) ∷ []) at
jsr_uncovers open_to sp a b at e h =
    let low : plus sp 65534 ≡ 0x1FFE = omega arith in
    let next : plus sp 65535 ≡ 0x1FFF = omega arith in
    elim (cases_eq at 0x1FFE) [
      | inl e0 ↦ inr (inl (e0 ∙ sym low))
      | inr n0 ↦ elim (cases_eq at 0x1FFF) [
        | inl e1 ↦ inr (inr (inl (e1 ∙ sym next)))
        | inr n1 ↦ inl (let q = or_parts (open_to at) (nat_le 0x1FE0 at && nat_lt at (plus sp 65534)) h in
            let t : (nat_le 0x1FE0 at && nat_lt at sp) ≡ false = grind (arith, nat_tests, q.1, low) in rw (q.0, t))
      ]
    ]

pub jsr_run : CallGoesOn
jsr_run c s p to l ep h es =
    let low : plus s.regs.sp 65534 ≡ 0x1FFE = omega arith in
    let over : plus s.regs.sp 65535 ≡ 0x1FFF = omega arith in
    let m = min s.regs.sp (plus s.regs.sp 65534) in
    let open_to = c.open_to in
    let r0 : is_hidden open_to m (plus s.regs.sp 65534) ≡ false =
    high_shown open_to m (plus s.regs.sp 65534) (c.shut.stack (plus s.regs.sp 65534) (omega arith) (omega arith))
    (omega arith) in
    let r1 : is_hidden open_to m (plus s.regs.sp 65535) ≡ false =
    high_shown open_to m (plus s.regs.sp 65535) (c.shut.stack (plus s.regs.sp 65535) (omega arith) (omega arith))
    (omega arith) in
    busy_next c s p to (JsrExtended to) l (not_at c.memory_map s p ep h.off) ep h.from h.to h.decoded refl h.fits tt
    (r0, (r1, tt)) (λ at g. jsr_uncovers open_to s.regs.sp (plus s.regs.pc 3 / 2 ^ 8)
    (plus s.regs.pc 3 % 2 ^ 8) at es g) (omega arith, (omega arith, tt)) (inl low) refl refl

bra_back : (c : Setting) (s : State) (p : ℕ) → Live c s → s.regs.pc ≡ p → Here c p (Bra 0xF3) → 11 ≤ p
    → Next c s (after_plain c.flags (Bra 0xF3) s) (p - 11)
bra_back c s p l ep h le =
    next c s p (p - 11) (Bra 0xF3) l ep h refl (omega arith) tt tt tt refl refl (omega (arith, h.high))

pub call_run : (c : Setting) (s : State) → HasFrame c → c.memory_map.sample_flag < 0x1800 → Live c s → s.regs.pc
    ≡ c.memory_map.wait
    → s.regs.sp ≡ 0x2000
    → get_or s.mem c.memory_map.sample_flag 0 ≡ 1 → Called c s
call_run c s f low l ep es er =
    let p = c.memory_map.wait in
    let to = f.to in
    let high = c.shut.high in
    let s1 = after_plain c.flags (LdaaExtended c.memory_map.sample_flag) s in
    let s2 = after_plain c.flags (Beq 0xFB) s1 in
    let s3 = after_plain c.flags (JsrExtended c.memory_map.eval) s2 in
    let n1 =
    busy_next c s p (p + 3) (LdaaExtended c.memory_map.sample_flag) l (not_ready c.memory_map s er) ep f.from
    (omega arith) f.load refl (omega arith) (low_shown c.open_to s.regs.sp c.memory_map.sample_flag f.shown low, tt) tt
    (λ at g. inl g) tt l.stack (masked_tested s.regs.ccr _ _) (omega arith) in
    let nz : (get_or s.mem c.memory_map.sample_flag 0 == 0) ≡ false = grind (arith, nat_tests) in
    let z : has s1.regs.ccr 2 ≡ false = zero_tested s.regs.ccr _ (get_or s.mem c.memory_map.sample_flag 0 == 0) ∙ nz in
    let n2 =
    next c s1 (p + 3) (p + 3 + 2) (Beq 0xFB) n1.live n1.pc_is f.rest.0 refl (omega arith) tt tt tt refl refl
    (ap (λ b. if b then plus (plus s1.regs.pc 2) (0xFB + 65280) else plus s1.regs.pc 2) z
    ∙ omega (arith, n1.pc_is, to, high)) in
    let n3 = jsr_run c s2 (p + 3 + 2) c.memory_map.eval n2.live n2.pc_is f.rest.1.0 es in
    let e0 : plus s.regs.sp 65534 ≡ 0x1FFE = omega arith in
    let e1 : plus s.regs.sp 65535 ≡ 0x1FFF = omega arith in
    let er : plus s2.regs.pc 3 ≡ p + 8 = omega (arith, n2.pc_is) in
    let g =
    goes_on c 1 0 2 0 s s1 s3 (goes_one c s s1 (p + 3) n1)
    (goes_on c 1 0 1 0 s1 s2 s3 (goes_one c s1 s2 (p + 3 + 2) n2) (goes_one c s2 s3 c.memory_map.eval n3)) in
    record {
      t = s3;
      ds = g.ds;
      execution = g.execution;
      instructions = g.count;
      steps = g.parts;
      live = n3.live;
      pc_is = refl;
      sp_is = e0;
      mem_is = ap₂ (λ a b. set (set s.mem a (plus s2.regs.pc 3 / 2 ^ 8)) b (plus s2.regs.pc 3 % 2 ^ 8)) e0 e1
          ∙ ap (λ r. set (set s.mem 0x1FFE (r / 2 ^ 8)) 0x1FFF (r % 2 ^ 8)) er;
    }

pub leave_run : (c : Setting) (s : State) → HasFrame c → c.memory_map.sample_flag < 0x1800 → Live c s
    → s.regs.pc ≡ c.memory_map.wait + 8 → Left c s
leave_run c s f low l ep =
    let p = c.memory_map.wait in
    let s1 = after_plain c.flags (ClrExtended c.memory_map.sample_flag) s in
    let s2 = after_plain c.flags (Bra 0xF3) s1 in
    let h = f.rest.1.1.0 in
    let n1 =
    next c s (p + 3 + 2 + 3) (p + 3 + 2 + 3 + 3) (ClrExtended c.memory_map.sample_flag) l (ep ∙ omega arith) h refl
    h.fits tt (low, tt) (f.shown, tt) refl (masked_four s.regs.ccr false true false false)
    (omega (arith, ep, h.high)) in
    let n2 = bra_back c s1 (p + 3 + 2 + 3 + 3) n1.live n1.pc_is f.rest.1.1.1.0 (omega arith) in
    let g = goes_on c 1 0 1 0 s s1 s2 (goes_one c s s1 _ n1) (goes_one c s1 s2 _ n2) in
    record {
      t = s2;
      ds = g.ds;
      execution = g.execution;
      instructions = g.count;
      steps = g.parts;
      live = n2.live;
      pc_is =
          n2.pc_is ∙ omega arith;
      sp_is = refl;
      mem_is = refl;
    }

-- the state with a sample's bytes and READY
pub given_live : GivenIsLive
given_live c bytes s l fit le low =
    let m = put s.mem c.memory_map.samples bytes in
    let lm : length m ≡ 65536 = length-put s.mem c.memory_map.samples bytes ∙ l.size in
    let ls = l.size in
    record {
      temps = l.temps;
      size = length-set m c.memory_map.sample_flag 1 ∙ lm;
      bytes = bytes_after_set m c.memory_map.sample_flag 1
          (bytes_after_put s.mem c.memory_map.samples bytes l.bytes fit (omega arith)) (omega arith) (omega arith);
      fits = l.fits;
      stack = l.stack;
      mask = l.mask;
      same = high_set c.image m c.memory_map.sample_flag 1 (omega arith)
          (high_put c.image s.mem c.memory_map.samples bytes (omega arith) l.same);
    }

-- what a call pushes, and the bytes elsewhere
pub pushed_bytes : (m : List ℕ) (r p : ℕ) (bs : List ℕ) → p + length bs ≤ 0x1FFE → HasBytes m p bs
    → HasBytes (set (set m 0x1FFE (r / 2 ^ 8)) 0x1FFF (r % 2 ^ 8)) p bs
pushed_bytes m r p bs le h =
    bytes_set_out (set m 0x1FFE (r / 2 ^ 8)) 0x1FFF (r % 2 ^ 8) p bs (inl (omega arith))
    (bytes_set_out m 0x1FFE (r / 2 ^ 8) p bs (inl (omega arith)) h)

pub pushed_word : (m : List ℕ) (r : ℕ) → length m ≡ 65536
    → get_or (set (set m 0x1FFE (r / 2 ^ 8)) 0x1FFF (r % 2 ^ 8)) 0x1FFE 0 * 2 ^ 8 + get_or
    (set (set m 0x1FFE (r / 2 ^ 8)) 0x1FFF (r % 2 ^ 8)) 0x1FFF 0 ≡ r
pushed_word m r lm =
    let hi = r / 2 ^ 8 in
    let lo = r % 2 ^ 8 in
    let ls = length-set m 0x1FFE hi in
    let a : get_or (set (set m 0x1FFE hi) 0x1FFF lo) 0x1FFE 0 ≡ hi =
    get_or-set_other (set m 0x1FFE hi) 0x1FFF 0x1FFE lo 0 (omega arith) ∙ get_or-set_same m 0x1FFE hi 0 (omega arith) in
    let b : get_or (set (set m 0x1FFE hi) 0x1FFF lo) 0x1FFF 0 ≡ lo =
    get_or-set_same (set m 0x1FFE hi) 0x1FFF lo 0 (omega arith) in
    ap₂ (λ x y. x * 2 ^ 8 + y) a b ∙ omega arith
