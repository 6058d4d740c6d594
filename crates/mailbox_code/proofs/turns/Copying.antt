-- MAIL is copied while I is 1.
use Rattle.mailbox_code.proofs.Words.{[], ℕ, ◌*◌, ◌++◌, ◌+◌, ◌<◌, ◌∙◌, ◌∷◌, ◌≡◌, ◌≤◌, ◌⊎◌, after_plain, ap, arith, Bool}
use Rattle.mailbox_code.proofs.Words.{call_code, copy_code, Execution, execution_on, false, get_or, get_or-set_other}
use Rattle.mailbox_code.proofs.Words.{get_or-set_same, Here, inl, inr, Instr, is_free, is_postable, IsAt, IsCopied}
use Rattle.mailbox_code.proofs.Words.{IsMaskedStep, length, length-append, List, Lives, mailbox_map, MovbExtended}
use Rattle.mailbox_code.proofs.Words.{nat_tests, Orcc, refl, set, Stands, State, subst, suc, sym, true, zero}
use Rattle.std.proofs.Common.{◌≢◌, ⊎_elim}
use Rattle.cpu12_isa.specs.declared.instr.Instr.TheVariants.{Andcc, ClrExtended}
use Rattle.eval_code.proofs.Algebra.{masked_four, unmasked, masked_on}
use Rattle.firmware_code.specs.Settings.{Went}
use Rattle.firmware_code.proofs.Algebra.{low_shown, steady_of}
use Rattle.mailbox_code.proofs.turns.Posting.{Post, HasTurn, free_ctx, post_ctx, lives_of, at_of}

abbrev Masked : Post → ℕ → State → State → Type 0
Masked p = IsMaskedStep (mailbox_map p.n) p.image p.flags

-- one instruction of the copy
masked_step : (p : Post) (i : Instr) (s t : State) (at q : ℕ) → Lives p.image true s → s.regs.pc ≡ at
    → Here (free_ctx p) at i → (later : Bool)
    → Went (free_ctx p) later i s t q → Masked p 0 s t
masked_step p i s t at q l e h later w = record {
  away = λ q. h.off (sym e ∙ q);
  steady = (let lo = h.from in let hi = h.to in steady_of (post_ctx p) true s l (omega arith) (omega arith));
  instruction = i;
  shown = w.shown;
  single = refl;
}

-- n bytes copied, and the code that stands behind
record Moved (p : Post) (n at from to : ℕ) (rest : List Instr) (s : State) : Type 0 where
  t : State
  ds : List ℕ
  execution : Execution (Masked p) ds s t
  count : length ds ≡ n
  lives : Lives p.image true t
  pc_is : t.regs.pc ≡ at + 6 * n
  sp_is : t.regs.sp ≡ s.regs.sp
  stands : Stands (free_ctx p) (at + 6 * n) rest
  copied : (k : ℕ) → k < n → get_or t.mem (to + k) 0 ≡ get_or s.mem (from + k) 0
  elsewhere : (q : ℕ) → (q < to) ⊎ (to + n ≤ q) → get_or t.mem q 0 ≡ get_or s.mem q 0

-- MOVB
movb_run : (p : Post) (at from to : ℕ) (s : State) → Lives p.image true s → s.regs.pc ≡ at
    → Here (free_ctx p) at (MovbExtended from to) → from < 0x1800 → to < 0x1800
    → Went (free_ctx p) true (MovbExtended from to) s (after_plain p.flags (MovbExtended from to) s) (at + 6)
movb_run p at from to s l e h lf lt =
    let lo = h.from in
    let hi = h.to in
    let high = h.high in
    p.laws.masked (free_ctx p) true true s at (at + 6) (MovbExtended from to) l e lo hi h.decoded refl h.fits
    (low_shown is_free s.regs.sp from (below from lf) lf, tt) (lt, tt) (below to lt, tt) refl l.mask (omega arith)
  where
    below : (q : ℕ) → q < 0x1800 → is_free q ≡ false
    below q lt = grind (arith, nat_tests)

copy_run : (p : Post) (n at from to : ℕ) (rest : List Instr) (s : State) → Lives p.image true s → s.regs.pc ≡ at
    → Stands (free_ctx p) at (copy_code from to n ++ rest)
    → to + n ≤ from → from + n ≤ 0x1800 → Moved p n at from to rest s
copy_run p zero at from to rest s l e h apart low =
    let same : at ≡ at + 6 * 0 = omega arith in
    record {
      t = s;
      ds = [];
      execution = refl;
      count = refl;
      lives = l;
      pc_is = e ∙ same;
      sp_is = refl;
      stands = subst (λ (q : ℕ). Stands (free_ctx p) q rest) same h;
      copied = λ k lt. absurd (omega arith);
      elsewhere = λ q o. refl;
    }
copy_run p (suc n) at from to rest s l e h apart low =
    let v = get_or s.mem from 0 in
    let ls = l.size in
    let u = after_plain p.flags (MovbExtended from to) s in
    let w = movb_run p at from to s l e h.0 (omega arith) (omega arith) in
    let r = copy_run p n (at + 6) (from + 1) (to + 1) rest u w.lives w.pc_is h.1 (omega arith) (omega arith) in
    let behind : at + 6 + 6 * n ≡ at + 6 * suc n = omega arith in
    let first : get_or u.mem to 0 ≡ v = get_or-set_same s.mem to v 0 (omega arith) in
    let other : (q : ℕ) → q ≢ to → get_or u.mem q 0 ≡ get_or s.mem q 0 = λ q ne. get_or-set_other s.mem to q v 0 ne in
    record {
      t = r.t;
      ds = 0 ∷ r.ds;
      execution = (u, (masked_step p (MovbExtended from to) s u at (at + 6) l e h.0 true w, r.execution));
      count = omega (arith, r.count);
      lives = r.lives;
      pc_is = r.pc_is ∙ behind;
      sp_is = r.sp_is;
      stands = subst (λ (q : ℕ). Stands (free_ctx p) q rest) behind r.stands;
      copied = each r first other;
      elsewhere = λ q o. r.elsewhere q (⊎_elim (λ x. inl (omega arith)) (λ x. inr (omega arith)) o)
          ∙ other q (⊎_elim (λ x. omega arith) (λ x. omega arith) o);
    }
  where
    each : (r : Moved p n (at + 6) (from + 1) (to + 1) rest (after_plain p.flags (MovbExtended from to) s))
        → get_or (set s.mem to (get_or s.mem from 0)) to 0 ≡ get_or s.mem from 0
        → ((q : ℕ) → q ≢ to → get_or (set s.mem to (get_or s.mem from 0)) q 0 ≡ get_or s.mem q 0) → (k : ℕ) → k < suc n
        → get_or r.t.mem (to + k) 0 ≡ get_or s.mem (from + k) 0
    each r first other zero lt =
        let a : to + 0 ≡ to = omega arith in
        let b : from + 0 ≡ from = omega arith in
        ap (λ (q : ℕ). get_or r.t.mem q 0) a ∙ r.elsewhere to (inl (omega arith)) ∙ first
        ∙ ap (λ (q : ℕ). get_or s.mem q 0) (sym b)
    each r first other (suc k) lt =
        let a : to + suc k ≡ to + 1 + k = omega arith in
        let b : from + suc k ≡ from + 1 + k = omega arith in
        ap (λ (q : ℕ). get_or r.t.mem q 0) a ∙ r.copied k (omega arith) ∙ other (from + 1 + k) (omega arith)
        ∙ ap (λ (q : ℕ). get_or s.mem q 0) (sym b)

-- ORCC
set_run : (p : Post) → HasTurn p → (s : State) → IsAt p.image 0xC00D s
    → Went (free_ctx p) true (Orcc 0x10) s (after_plain p.flags (Orcc 0x10) s) 0xC00F
set_run p h s at =
    let l = lives_of is_postable false p.image s at.steady in
    p.laws.masked (free_ctx p) false true s 0xC00D 0xC00F (Orcc 0x10) l at.pc (omega arith)
    (omega arith) h.rest.1.0.decoded refl (omega arith) tt tt tt refl (masked_on s.regs.ccr.0)
    (omega (arith, at.pc))

-- CLR POSTED
clear_run : (p : Post) (at : ℕ) (s : State) → Lives p.image true s → s.regs.pc ≡ at
    → Here (free_ctx p) at (ClrExtended 0x1028)
    → Went (free_ctx p) true (ClrExtended 0x1028) s (after_plain p.flags (ClrExtended 0x1028) s) (at + 3)
clear_run p at s l e h =
    let lo = h.from in
    let hi = h.to in
    let high = h.high in
    p.laws.masked (free_ctx p) true true s at (at + 3) (ClrExtended 0x1028) l e lo hi h.decoded refl h.fits tt
    (omega arith, tt) (refl, tt) refl
    (ap (λ (m : Bool × Bool). m.0) (masked_four s.regs.ccr false true false false) ∙ l.mask) (omega arith)

-- ANDCC
allow_run : (p : Post) (at : ℕ) (s : State) → Lives p.image true s → s.regs.pc ≡ at → Here (free_ctx p) at (Andcc 0xEF)
    → Went (free_ctx p) false (Andcc 0xEF) s (after_plain p.flags (Andcc 0xEF) s) (at + 2)
allow_run p at s l e h =
    let lo = h.from in
    let hi = h.to in
    let high = h.high in
    p.laws.masked (free_ctx p) true false s at (at + 2) (Andcc 0xEF) l e lo hi h.decoded refl h.fits tt tt tt refl
    (unmasked s.regs.ccr.0) (omega arith)

pub copies_run : (p : Post) → HasTurn p → (s : State) → IsAt p.image 0xC00D s
    → (t : State) × IsCopied (mailbox_map p.n) p.n p.image p.flags s t
copies_run p h s at =
    let few = p.few in
    let s1 = after_plain p.flags (Orcc 0x10) s in
    let w1 = set_run p h s at in
    let r = copy_run p p.n 0xC00F 0x1020 0x1001 (call_code (mailbox_map p.n) p.n) s1 w1.lives w1.pc_is h.rest.1.1
    (omega arith) (omega arith) in
    let s2 = r.t in
    let m2 = s2.mem in
    let ls = r.lives.size in
    let s3 = after_plain p.flags (ClrExtended 0x1028) s2 in
    let w3 = clear_run p (0xC00F + 6 * p.n) s2 r.lives r.pc_is r.stands.0 in
    let s4 = after_plain p.flags (Andcc 0xEF) s3 in
    let w4 = allow_run p (0xC00F + 6 * p.n + 3) s3 w3.lives w3.pc_is r.stands.1.0 in
    let end : 0xC00F + 6 * p.n + 3 + 2 ≡ 0xC008 + 12 + 6 * p.n = omega arith in
    let sp : s4.regs.sp ≡ 0x2000 = r.sp_is ∙ at.sp in
    let step3 : Masked p 0 s2 s3 =
    masked_step p (ClrExtended 0x1028) s2 s3 (0xC00F + 6 * p.n) (0xC00F + 6 * p.n + 3) r.lives r.pc_is
    r.stands.0 true w3 in
    let step4 : Masked p 0 s3 s4 =
    masked_step p (Andcc 0xEF) s3 s4 (0xC00F + 6 * p.n + 3) (0xC00F + 6 * p.n + 3 + 2) w3.lives w3.pc_is
    r.stands.1.0 false w4 in
    let kept : (q : ℕ) → q ≢ 0x1028 → get_or s4.mem q 0 ≡ get_or m2 q 0 =
    λ q ne. get_or-set_other m2 0x1028 q 0 0 ne in (
      s4,
      record {
        masked = s1;
        sets = w1.shown;
        ds = r.ds ++ 0 ∷ 0 ∷ [];
        copies = execution_on (Masked p) r.ds (0 ∷ 0 ∷ []) s1 s2 s4 r.execution (s3, (step3, (s4, (step4, refl))));
        count = omega (arith, length-append r.ds (0 ∷ 0 ∷ []), r.count);
        at = at_of p (0xC008 + 12 + 6 * p.n) s4 w4.lives (w4.pc_is ∙ end) (omega arith) (omega arith) sp;
        inputs = λ k lt. kept (0x1001 + k) (omega arith) ∙ r.copied k lt;
        cleared = get_or-set_same m2 0x1028 0 0 (omega arith);
        elsewhere = λ q o ne. kept q ne ∙ r.elsewhere q o;
      },
    )
