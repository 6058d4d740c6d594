-- Bytes added up, one after another.
use Rattle.watched_code.proofs.Words.{[], ◌%◌, ◌*◌, ◌++◌, ◌+◌, ◌-◌, ◌<◌, ◌==◌, ◌^◌, ◌∙◌, ◌∷◌, ◌≡◌, ◌≤◌, AddbImmediate}
use Rattle.watched_code.proofs.Words.{after_plain, ap, ap₂, arith, Bne, Bool, Bounded, bounded_none, bounded_on}
use Rattle.watched_code.proofs.Words.{bounded_one, false, get_or, has, if◌then◌else◌, Instr, IsInterruptibleStep}
use Rattle.watched_code.proofs.Words.{IsSegment, length, List, Live, nat_tests, not, refl, Segment, segment_code}
use Rattle.watched_code.proofs.Words.{segments_code, Setting, Stands, State, subst, suc, sym, true, zero, ℕ, ⊎_elim}
use Rattle.std.proofs.{Common.nat_lt}
use Rattle.cpu12_isa.specs.{declared.instr.Ccr.Ccr, declared.instr.Instr.TheVariants.LdxImmediate}
use Rattle.cpu12_isa.specs.{declared.instr.Instr.TheVariants.CpxImmediate}
use Rattle.cpu12_isa.specs.{declared.instr.Instr.TheVariants.AddbPostIncrementX, Flags.put, Memory.plus}
use Rattle.firmware_code.specs.Settings.{Here, Next}
pub use Rattle.watched_code.specs.WatchedCode.{AreSegments}
use Rattle.eval_code.proofs.Algebra.{zero_four}
use Rattle.firmware_code.proofs.Algebra.{high_shown}
use Rattle.watched_code.proofs.watching.Laws.{WatchingLaws}

-- Z where H is put too
zero_five : (c : Ccr) (h n z v k : Bool) → has (put (put (put (put (put c 5 h) 3 n) 2 z) 1 v) 0 k) 2 ≡ z
zero_five c h n z v k = zero_four (put c 5 h) n z v k

-- Z after ADDB says whether the sum is 0
pub addb_zero : (c : Setting) (s : State) (v : ℕ)
    → has (after_plain c.flags (AddbImmediate v) s).regs.ccr 2 ≡ ((s.regs.b + v) % 2 ^ 8 == 0)
addb_zero c s v = zero_five s.regs.ccr _ _ ((s.regs.b + v) % 2 ^ 8 == 0) _ _

-- one step of the code around EVAL
abbrev pub Step : Setting → ℕ → State → State → Type 0
Step c = IsInterruptibleStep c.open_to c.memory_map c.image c.flags

-- no byte that stands high is open
abbrev pub IsShutAbove : Setting → Type 0
IsShutAbove c = (at : ℕ) → 0x2000 ≤ at → c.open_to at ≡ false

-- Z after CPX says whether X is the word
cpx_same : (c : Setting) (s : State) (v : ℕ) → s.regs.x ≡ v → v < 2 ^ 16
    → has (after_plain c.flags (CpxImmediate v) s).regs.ccr 2 ≡ true
cpx_same c s v e lt =
    let z : ((s.regs.x + (65536 - v)) % 65536 == 0) ≡ true =
    (let d : (s.regs.x + (65536 - v)) % 65536 ≡ 0 = omega arith in grind (arith, nat_tests)) in
    zero_four s.regs.ccr _ ((s.regs.x + (65536 - v)) % 65536 == 0) _ _ ∙ z

cpx_less : (c : Setting) (s : State) (v : ℕ) → s.regs.x < v → v < 2 ^ 16
    → has (after_plain c.flags (CpxImmediate v) s).regs.ccr 2 ≡ false
cpx_less c s v less lt =
    let z : ((s.regs.x + (65536 - v)) % 65536 == 0) ≡ false =
    (let d : 0 < (s.regs.x + (65536 - v)) % 65536 = omega arith in grind (arith, nat_tests)) in
    zero_four s.regs.ccr _ ((s.regs.x + (65536 - v)) % 65536 == 0) _ _ ∙ z

pub bne_on : WatchingLaws → (c : Setting) (s : State) (p to : ℕ) → Live c s → s.regs.pc ≡ p → Here c p (Bne to)
    → has s.regs.ccr 2 ≡ true
    → Next c s (after_plain c.flags (Bne to) s) (p + 2)
bne_on laws c s p to l ep h z =
    laws.plain c s p (p + 2) (Bne to) l ep h refl tt tt tt refl refl
    (ap (λ b. if not b then plus (plus s.regs.pc 2) (if nat_lt to 128 then to else to + 65280) else plus s.regs.pc
    2) z ∙ omega (arith, h.high))

pub bne_back : WatchingLaws → (c : Setting) (s : State) (p to q : ℕ) → Live c s → s.regs.pc ≡ p → Here c p (Bne to)
    → 128 ≤ to → to < 2 ^ 8 → p + 2 + to ≡ q + 256
    → has s.regs.ccr 2 ≡ false → Next c s (after_plain c.flags (Bne to) s) q
bne_back laws c s p to q l ep h ge lt e z =
    let far : nat_lt to 128 ≡ false = grind (arith, nat_tests) in
    laws.plain c s p q (Bne to) l ep h refl tt tt tt refl refl
    (ap₂ (λ b d. if not b then plus (plus s.regs.pc 2) (if d then to else to + 65280) else plus s.regs.pc 2) z far
    ∙ omega (arith, h.high))

-- so many bytes from an address on, summed
abbrev pub sum_from : List ℕ → ℕ → ℕ → ℕ
sum_from m at zero = 0
sum_from m at (suc n) = get_or m at 0 + sum_from m (at + 1) n

-- where instructions lead that leave memory and the stack, and what is then in B
pub record Adds (c : Setting) (n : ℕ) (s : State) (pc sum : ℕ) : Type 0 where
  pub t : State
  pub goes : Bounded (Step c) n 0 s t
  pub live : Live c t
  pub pc_is : t.regs.pc ≡ pc
  pub sp_is : t.regs.sp ≡ s.regs.sp
  pub mem_is : t.mem ≡ s.mem
  pub b_is : t.regs.b ≡ sum

adds_after : (c : Setting) (n m : ℕ) (s u : State) (pc sum : ℕ) → Bounded (Step c) n 0 s u → u.regs.sp ≡ s.regs.sp
    → u.mem ≡ s.mem
    → Adds c m u pc sum → Adds c (n + m) s pc sum
adds_after c n m s u pc sum g es em r = record {
  t = r.t;
  goes = bounded_on (Step c) n 0 m 0 s u r.t g r.goes;
  live = r.live;
  pc_is = r.pc_is;
  sp_is = r.sp_is ∙ es;
  mem_is = r.mem_is ∙ em;
  b_is = r.b_is;
}

adds_at : (c : Setting) (n m : ℕ) (s : State) (pc pc' sum sum' : ℕ) → n ≡ m → pc ≡ pc' → sum ≡ sum' → Adds c n s pc sum
    → Adds c m s pc' sum'
adds_at c n m s pc pc' sum sum' en ep es r = record {
  t = r.t;
  goes = subst (λ (k : ℕ). Bounded (Step c) k 0 s r.t) en r.goes;
  live = r.live;
  pc_is = r.pc_is ∙ ep;
  sp_is = r.sp_is;
  mem_is = r.mem_is;
  b_is = r.b_is ∙ es;
}

-- a byte added, and X compared with the end
record Turned (c : Setting) (s : State) (p end : ℕ) : Type 0 where
  t : State
  goes : Bounded (Step c) 2 0 s t
  live : Live c t
  pc_is : t.regs.pc ≡ p + 5
  x_is : t.regs.x ≡ s.regs.x + 1
  b_is : t.regs.b ≡ (s.regs.b + get_or s.mem s.regs.x 0) % 2 ^ 8
  sp_is : t.regs.sp ≡ s.regs.sp
  mem_is : t.mem ≡ s.mem
  last : s.regs.x + 1 ≡ end → has t.regs.ccr 2 ≡ true
  more : s.regs.x + 1 < end → has t.regs.ccr 2 ≡ false

abbrev loop_code : ℕ → List Instr
loop_code end = AddbPostIncrementX ∷ CpxImmediate end ∷ Bne 0xF9 ∷ []

turn : WatchingLaws → (c : Setting) → IsShutAbove c → (s : State) (p end : ℕ) → Live c s → s.regs.pc ≡ p
    → Stands c p (loop_code end) → 0x2000 ≤ s.regs.x → s.regs.x < end → end < 2 ^ 16 → Turned c s p end
turn laws c above s p end l ep h low less top =
    let s1 = after_plain c.flags AddbPostIncrementX s in
    let s2 = after_plain c.flags (CpxImmediate end) s1 in
    let stack : s.regs.sp ≤ 0x2000 = ⊎_elim (λ e. omega arith) (λ e. omega arith) l.stack in
    let n1 =
    laws.straight c s p AddbPostIncrementX l ep h.0 refl
    (high_shown c.open_to s.regs.sp s.regs.x (above s.regs.x low) (omega arith), tt) tt tt in
    let n2 = laws.straight c s1 (p + 2) (CpxImmediate end) n1.live n1.pc_is h.1.0 refl tt tt tt in
    let x1 : s1.regs.x ≡ s.regs.x + 1 = omega arith in
    record {
      t = s2;
      goes = bounded_on (Step c) 1 0 1 0 s s1 s2 (bounded_one (Step c) 0 s s1 n1.step)
          (bounded_one (Step c) 0 s1 s2 n2.step);
      live = n2.live;
      pc_is = n2.pc_is ∙ omega arith;
      x_is = x1;
      b_is = refl;
      sp_is = refl;
      mem_is = refl;
      last = λ e. cpx_same c s1 end (x1 ∙ e) top;
      more = λ lt. cpx_less c s1 end (omega arith) top;
    }

sum_on : (b v w : ℕ) → ((b + v) % 2 ^ 8 + w) % 2 ^ 8 ≡ (b + (v + w)) % 2 ^ 8
sum_on b v w = omega arith

-- the loop: three instructions a byte
pub loop : WatchingLaws → (c : Setting) → IsShutAbove c → (s : State) (p end n : ℕ) → Live c s → s.regs.pc ≡ p
    → Stands c p (loop_code end) → 0x2000 ≤ s.regs.x → s.regs.x + suc n ≡ end → end < 2 ^ 16
    → Adds c (3 * suc n) s (p + 7) ((s.regs.b + sum_from s.mem s.regs.x (suc n)) % 2 ^ 8)
loop laws c above s p end zero l ep h low e top =
    let r = turn laws c above s p end l ep h low (omega arith) top in
    let at : p + 5 ≡ p + 2 + 3 = omega arith in
    let n = bne_on laws c r.t (p + 2 + 3) 0xF9 r.live (r.pc_is ∙ at) h.1.1.0 (r.last (omega arith)) in
    let u = after_plain c.flags (Bne 0xF9) r.t in
    record {
      t = u;
      goes = bounded_on (Step c) 2 0 1 0 s r.t u r.goes (bounded_one (Step c) 0 r.t u n.step);
      live = n.live;
      pc_is = n.pc_is ∙ omega arith;
      sp_is = r.sp_is;
      mem_is = r.mem_is;
      b_is = r.b_is ∙ omega arith;
    }
loop laws c above s p end (suc n) l ep h low e top =
    let r = turn laws c above s p end l ep h low (omega arith) top in
    let at : p + 5 ≡ p + 2 + 3 = omega arith in
    let k = bne_back laws c r.t (p + 2 + 3) 0xF9 p r.live (r.pc_is ∙ at) h.1.1.0 (omega arith) (omega arith) (omega arith)
    (r.more (omega arith)) in
    let u = after_plain c.flags (Bne 0xF9) r.t in
    let ex = r.x_is in
    let rest = loop laws c above u p end n k.live k.pc_is h (omega arith) (omega arith) top in
    let same : sum_from u.mem u.regs.x (suc n) ≡ sum_from s.mem (s.regs.x + 1) (suc n) =
    ap₂ (λ (m : List ℕ) (x : ℕ). sum_from m x (suc n)) r.mem_is ex in
    let total : (u.regs.b + sum_from u.mem u.regs.x (suc n)) % 2 ^ 8
    ≡ (s.regs.b + sum_from s.mem s.regs.x (suc (suc n))) % 2 ^ 8 =
    ap₂ (λ (x y : ℕ). (x + y) % 2 ^ 8) r.b_is same
    ∙ sum_on s.regs.b (get_or s.mem s.regs.x 0) (sum_from s.mem (s.regs.x + 1) (suc n)) in
    adds_at c (2 + 1 + 3 * suc n) (3 * suc (suc n)) s (p + 7) (p + 7) _ _ (omega arith) refl total
    (adds_after c (2 + 1) (3 * suc n) s u (p + 7) _
    (bounded_on (Step c) 2 0 1 0 s r.t u r.goes (bounded_one (Step c) 0 r.t u k.step)) r.sp_is
    r.mem_is rest)

-- what stands where segments are, summed, and how many instructions that takes
abbrev pub sum_in : List ℕ → List Segment → ℕ
sum_in m [] = 0
sum_in m (g ∷ gs) = sum_from m g.at (length g.bytes) + sum_in m gs

abbrev pub count_in : List Segment → ℕ
count_in [] = 0
count_in (g ∷ gs) = 1 + 3 * length g.bytes + count_in gs

segment_run : WatchingLaws → (c : Setting) → IsShutAbove c → (s : State) (p : ℕ) (g : Segment) → Live c s
    → s.regs.pc ≡ p → Stands c p (segment_code g) → IsSegment g
    → Adds c (1 + 3 * length g.bytes) s (p + 10) ((s.regs.b + sum_from s.mem g.at (length g.bytes)) % 2 ^ 8)
segment_run laws c above s p g l ep h q = by_size (length g.bytes) refl
  where
    by_size : (n : ℕ) → length g.bytes ≡ n
        → Adds c (1 + 3 * length g.bytes) s (p + 10) ((s.regs.b + sum_from s.mem g.at (length g.bytes)) % 2 ^ 8)
    by_size zero e = absurd (let some = q.1 in omega arith)
    by_size (suc n) e =
        let low = q.0 in
        let top = q.2 in
        let u = after_plain c.flags (LdxImmediate g.at) s in
        let k = laws.straight c s p (LdxImmediate g.at) l ep h.0 refl tt tt tt in
        let r = loop laws c above u (p + 3) (g.at + length g.bytes) n k.live k.pc_is h.1 low (omega arith)
        (omega arith) in
        let total : (s.regs.b + sum_from s.mem g.at (suc n)) % 2 ^ 8
        ≡ (s.regs.b + sum_from s.mem g.at (length g.bytes)) % 2 ^ 8 =
        ap (λ (m : ℕ). (s.regs.b + sum_from s.mem g.at m) % 2 ^ 8) (sym e) in
        adds_at c (1 + 3 * suc n) (1 + 3 * length g.bytes) s (p + 3 + 7) (p + 10) _ _ (omega arith) (omega arith) total
        (adds_after c 1 (3 * suc n) s u (p + 3 + 7) _ (bounded_one (Step c) 0 s u k.step) refl refl r)

-- the segments, one after another, and what stands behind their code
pub record Added (c : Setting) (s : State) (gs : List Segment) (rest : List Instr) (q : ℕ) : Type 0 where
  pub adds : Adds c (count_in gs) s q ((s.regs.b + sum_in s.mem gs) % 2 ^ 8)
  pub behind : Stands c q rest

added_on : (c : Setting) (s : State) (p q : ℕ) (g : Segment) (gs : List Segment) (rest : List Instr)
    → (r : Adds c (1 + 3 * length g.bytes) s p ((s.regs.b + sum_from s.mem g.at (length g.bytes)) % 2 ^ 8))
    → Added c r.t gs rest q → Added c s (g ∷ gs) rest q
added_on c s p q g gs rest r k =
    let n = 1 + 3 * length g.bytes in
    let m = count_in gs in
    let same : sum_in r.t.mem gs ≡ sum_in s.mem gs = ap (λ (x : List ℕ). sum_in x gs) r.mem_is in
    let total : (r.t.regs.b + sum_in r.t.mem gs) % 2 ^ 8 ≡ (s.regs.b + sum_in s.mem (g ∷ gs)) % 2 ^ 8 =
    ap₂ (λ (x y : ℕ). (x + y) % 2 ^ 8) r.b_is same
    ∙ sum_on s.regs.b (sum_from s.mem g.at (length g.bytes)) (sum_in s.mem gs) in
    record {
      adds = adds_at c (n + m) (n + m) s q q _ _ refl refl total
          (adds_after c n m s r.t q _ r.goes r.sp_is r.mem_is k.adds);
      behind = k.behind;
    }

pub segments_run : WatchingLaws → (c : Setting) → IsShutAbove c
    → (s : State) (p q : ℕ) (gs : List Segment) (rest : List Instr) → Live c s → s.regs.pc ≡ p
    → Stands c p (segments_code gs ++ rest) → AreSegments gs
    → p + 10 * length gs ≡ q → Added c s gs rest q
segments_run laws c above s p q [] rest l ep h g e =
    let fit = l.fits.b in
    let at : p ≡ q = omega arith in
    record {
      adds = record {
        t = s;
        goes = bounded_none (Step c) s;
        live = l;
        pc_is = ep ∙ at;
        sp_is = refl;
        mem_is = refl;
        b_is =
            omega arith;
      };
      behind = subst (λ (k : ℕ). Stands c k rest) at h;
    }
segments_run laws c above s p q (g ∷ gs) rest l ep h k e =
    let r = segment_run laws c above s p g l ep (h.0, (h.1.0, (h.1.1.0, (h.1.1.1.0, tt)))) k.0 in
    let at : p + 3 + 2 + 3 + 2 ≡ p + 10 = omega arith in
    added_on c s (p + 10) q g gs rest r
    (segments_run laws c above r.t (p + 10) q gs rest r.live r.pc_is
    (subst (λ (n : ℕ). Stands c n (segments_code gs ++ rest)) at h.1.1.1.1) k.1 (omega arith))
