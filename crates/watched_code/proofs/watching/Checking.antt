-- The check, to EVAL or to BAD.
use Rattle.watched_code.proofs.Words.{[], ◌%◌, ◌*◌, ◌++◌, ◌+◌, ◌<◌, ◌==◌, ◌^◌, ◌∙◌, ◌∷◌, ◌≡◌, ◌≤◌, AddbImmediate}
use Rattle.watched_code.proofs.Words.{after_plain, ap, arith, Bne, Bounded, bounded_on, bounded_one, ClrExtended}
use Rattle.watched_code.proofs.Words.{false, fault_at, has, Instr, LdabImmediate, length, List, Live, refl, Segment}
use Rattle.watched_code.proofs.Words.{segments_code, set, Setting, Stands, State, subst, true, ℕ}
use Rattle.watched_code.proofs.watching.Adding.{IsShutAbove, AreSegments, Added, segments_run, sum_in, count_in}
use Rattle.watched_code.proofs.watching.Adding.{Step, addb_zero, bne_on, bne_back}
use Rattle.watched_code.proofs.watching.Laws.{WatchingLaws}

-- the check's last three instructions
abbrev pub decision : ℕ → ℕ → List Instr
decision check to = AddbImmediate check ∷ Bne to ∷ ClrExtended fault_at ∷ []

-- the check stands at an address, and branches back to BAD
pub record HasCheck (c : Setting) (at bad check to : ℕ) (gs : List Segment) : Type 0 where
  pub code : Stands c at (LdabImmediate 0 ∷ (segments_code gs ++ decision check to))
  pub segments : AreSegments gs
  pub back : 128 ≤ to
  pub to_fits : to < 2 ^ 8
  pub shown : c.open_to fault_at ≡ false
  pub above : IsShutAbove c
  pub bad_is : at + 2 + 10 * length gs + 4 + to ≡ bad + 256

-- before the branch
record Decided (c : Setting) (s : State) (at check to : ℕ) (gs : List Segment) : Type 0 where
  t : State
  goes : Bounded (Step c) (2 + count_in gs) 0 s t
  live : Live c t
  pc_is : t.regs.pc ≡ at + 2 + 10 * length gs + 2
  sp_is : t.regs.sp ≡ s.regs.sp
  mem_is : t.mem ≡ s.mem
  zero_is : has t.regs.ccr 2 ≡ ((sum_in s.mem gs + check) % 2 ^ 8 == 0)
  rest : Stands c (at + 2 + 10 * length gs + 2) (Bne to ∷ ClrExtended fault_at ∷ [])

decided_by : WatchingLaws → (c : Setting) (s : State) (at check to : ℕ) (gs : List Segment)
    → Live c (after_plain c.flags (LdabImmediate 0) s)
    → Bounded (Step c) 1 0 s (after_plain c.flags (LdabImmediate 0) s)
    → Added c (after_plain c.flags (LdabImmediate 0) s) gs (decision check to) (at + 2 + 10 * length gs)
    → Decided c s at check to gs
decided_by laws c s at check to gs l g r =
    let a = r.adds in
    let q = at + 2 + 10 * length gs in
    let u = after_plain c.flags (AddbImmediate check) a.t in
    let n = laws.straight c a.t q (AddbImmediate check) a.live a.pc_is r.behind.0 refl tt tt tt in
    let total : (a.t.regs.b + check) % 2 ^ 8 ≡ (sum_in s.mem gs + check) % 2 ^ 8 =
    ap (λ (x : ℕ). (x + check) % 2 ^ 8) a.b_is ∙ cut (sum_in s.mem gs) check in
    let count : 1 + (count_in gs + 1) ≡ 2 + count_in gs = omega arith in
    record {
      t = u;
      goes = subst (λ (m : ℕ). Bounded (Step c) m 0 s u) count
          (bounded_on (Step c) 1 0 (count_in gs + 1) 0 s (after_plain c.flags (LdabImmediate 0) s) u g
          (bounded_on (Step c) (count_in gs) 0 1 0 _ a.t u a.goes (bounded_one (Step c) 0 a.t u n.step)));
      live = n.live;
      pc_is = n.pc_is;
      sp_is = a.sp_is;
      mem_is = a.mem_is;
      zero_is = addb_zero c a.t check ∙ ap (λ (x : ℕ). x == 0) total;
      rest = r.behind.1;
    }
  where
    cut : (n k : ℕ) → ((0 + n) % 2 ^ 8 + k) % 2 ^ 8 ≡ (n + k) % 2 ^ 8
    cut n k = omega arith

decided : WatchingLaws → (c : Setting) (s : State) (at bad check to : ℕ) (gs : List Segment)
    → HasCheck c at bad check to gs → Live c s → s.regs.pc ≡ at → Decided c s at check to gs
decided laws c s at bad check to gs h l ep =
    let u = after_plain c.flags (LdabImmediate 0) s in
    let n = laws.straight c s at (LdabImmediate 0) l ep h.code.0 refl tt tt tt in
    decided_by laws c s at check to gs n.live (bounded_one (Step c) 0 s u n.step)
    (segments_run laws c h.above u (at + 2) (at + 2 + 10 * length gs) gs (decision check to) n.live n.pc_is h.code.1
    h.segments refl)

-- where the check leads
pub record Leads (c : Setting) (n : ℕ) (s : State) (pc : ℕ) (mem : List ℕ) : Type 0 where
  pub t : State
  pub goes : Bounded (Step c) n 0 s t
  pub live : Live c t
  pub pc_is : t.regs.pc ≡ pc
  pub sp_is : t.regs.sp ≡ s.regs.sp
  pub mem_is : t.mem ≡ mem

-- behind it, with FAULT cleared, where the sum with the check byte is 0
passed_by : WatchingLaws → (c : Setting) (s : State) (at check to : ℕ) (gs : List Segment)
    → c.open_to fault_at ≡ false → Decided c s at check to gs
    → ((sum_in s.mem gs + check) % 2 ^ 8 == 0) ≡ true
    → Leads c (4 + count_in gs) s (at + 10 * length gs + 9) (set s.mem fault_at 0)
passed_by laws c s at check to gs shown d e =
    let q = at + 2 + 10 * length gs + 2 in
    let u = after_plain c.flags (Bne to) d.t in
    let v = after_plain c.flags (ClrExtended fault_at) u in
    let n = bne_on laws c d.t q to d.live d.pc_is d.rest.0 (d.zero_is ∙ e) in
    let k =
    laws.straight c u (q + 2) (ClrExtended fault_at) n.live n.pc_is d.rest.1.0 refl tt (omega arith, tt) (shown, tt) in
    let count : 2 + count_in gs + 2 ≡ 4 + count_in gs = omega arith in
    record {
      t = v;
      goes = subst (λ (m : ℕ). Bounded (Step c) m 0 s v) count
          (bounded_on (Step c) (2 + count_in gs) 0 2 0 s d.t v d.goes
          (bounded_on (Step c) 1 0 1 0 d.t u v (bounded_one (Step c) 0 d.t u n.step)
          (bounded_one (Step c) 0 u v k.step)));
      live = k.live;
      pc_is = k.pc_is ∙ omega arith;
      sp_is = d.sp_is;
      mem_is = ap (λ (m : List ℕ). set m fault_at 0) d.mem_is;
    }

pub passed : WatchingLaws → (c : Setting) (s : State) (at bad check to : ℕ) (gs : List Segment)
    → HasCheck c at bad check to gs → Live c s → s.regs.pc ≡ at
    → ((sum_in s.mem gs + check) % 2 ^ 8 == 0) ≡ true
    → Leads c (4 + count_in gs) s (at + 10 * length gs + 9) (set s.mem fault_at 0)
passed laws c s at bad check to gs h l ep e =
    passed_by laws c s at check to gs h.shown (decided laws c s at bad check to gs h l ep) e

-- to BAD, where it is not
failed_by : WatchingLaws → (c : Setting) (s : State) (at bad check to : ℕ) (gs : List Segment)
    → HasCheck c at bad check to gs → Decided c s at check to gs
    → ((sum_in s.mem gs + check) % 2 ^ 8 == 0) ≡ false → Leads c (3 + count_in gs) s bad s.mem
failed_by laws c s at bad check to gs h d e =
    let q = at + 2 + 10 * length gs + 2 in
    let u = after_plain c.flags (Bne to) d.t in
    let b = h.bad_is in
    let n = bne_back laws c d.t q to bad d.live d.pc_is d.rest.0 h.back h.to_fits (omega arith) (d.zero_is ∙ e) in
    let count : 2 + count_in gs + 1 ≡ 3 + count_in gs = omega arith in
    record {
      t = u;
      goes = subst (λ (m : ℕ). Bounded (Step c) m 0 s u) count
          (bounded_on (Step c) (2 + count_in gs) 0 1 0 s d.t u d.goes (bounded_one (Step c) 0 d.t u n.step));
      live = n.live;
      pc_is = n.pc_is;
      sp_is = d.sp_is;
      mem_is = d.mem_is;
    }

pub failed : WatchingLaws → (c : Setting) (s : State) (at bad check to : ℕ) (gs : List Segment)
    → HasCheck c at bad check to gs → Live c s → s.regs.pc ≡ at
    → ((sum_in s.mem gs + check) % 2 ^ 8 == 0) ≡ false → Leads c (3 + count_in gs) s bad s.mem
failed laws c s at bad check to gs h l ep e =
    failed_by laws c s at bad check to gs h (decided laws c s at bad check to gs h l ep) e
