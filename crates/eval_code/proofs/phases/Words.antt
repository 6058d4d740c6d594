-- The quotient's code, for answers of a byte and of a word.
use Rattle.eval_code.proofs.Words.{[], ◌%◌, ◌*◌, ◌+◌, ◌/◌, ◌<◌, ◌==◌, ◌^◌, ◌∙◌, ◌∷◌, ◌≡◌, ◌≢◌, ◌≤◌, after_plain, ap}
use Rattle.eval_code.proofs.Words.{ap₂, arith, Beq, Bra, bytes_of, ClrExtended, CpxImmediate}
use Rattle.eval_code.proofs.Words.{div-lt_iff_lt-mul, Ediv, false, get_or, has, Instr, LdabImmediate}
use Rattle.eval_code.proofs.Words.{List, nat_lt, nat_tests, None, Option, plus, put, quotient_code, refl, Regs, set}
use Rattle.eval_code.proofs.Words.{set-get_or, Some, StaaExtended, StabExtended, State, suc, sym, TransferYD, true}
use Rattle.eval_code.proofs.Words.{Word, Writes, zero, ℕ}
use Rattle.cpu12_isa.specs.{declared.instr.Instr.TheVariants.TransferXD, Registers.divided_fraction}
use Rattle.std.proofs.lemmas.Nat.{div-add-mod'}
use Rattle.std.proofs.Math.Nat.{div-div-eq-div-mul, mul-div-mul_right, mul-add-div_right, mod-lt}
use Rattle.cpu12_isa.specs.declared.instr.Instr.TheVariants.{Fdiv}
use Rattle.eval_code.proofs.{steps.Memory.HasBytes, Sizes.code_size}
use Rattle.eval_code.proofs.phases.Quotients.{quotient_of, quotient_most, quotient_small}
use Rattle.eval_code.proofs.steps.Instructions.{divided_is, straight, cpx_zero, beq_on, beq_off, bra_on}
use Rattle.eval_code.proofs.steps.Instructions.{ediv_y, ediv_sp}
use Rattle.eval_code.proofs.steps.Stepping.{Ctx, Live, Stands, Goes, goes_one, goes_on, stands_at}
use Rattle.eval_code.proofs.steps.Stepping.{Reaches, reaches_at}
use Rattle.cpu12_isa.specs.Flags as flag

-- D by X as fractions, where D is below X
fraction_is : (r : Regs) (d : ℕ) → r.a * 2 ^ 8 + r.b ≡ d → d < r.x
    → divided_fraction r
    ≡ record r {
      x = d * 2 ^ 16 / r.x;
      a = d * 2 ^ 16 % r.x / 2 ^ 8;
      b = d * 2 ^ 16 % r.x % 2 ^ 8;
      pc =
          plus r.pc 2;
      ccr = flag.put (flag.put (flag.put r.ccr 2 (d * 2 ^ 16 / r.x == 0)) 1 false) 0 false;
    }
fraction_is r d e lt = let a : nat_lt d r.x ≡ true = grind (arith, nat_tests) in rw (e, a)

-- EDIV and FDIV: the quotient in Y, its fraction in X
record Divided (c : Ctx) (s : State) (pc n w : ℕ) : Type 0 where
  t : State
  goes : Goes c 2 0 s t
  live : Live c t
  pc_is : t.regs.pc ≡ pc
  y_is : t.regs.y ≡ n / suc w
  x_is : t.regs.x ≡ n % suc w * 2 ^ 16 / suc w
  mem_is : t.mem ≡ s.mem
  sp_is : t.regs.sp ≡ s.regs.sp

divided : (c : Ctx) (p n w : ℕ) (s : State) (rest : List Instr) → Live c s → s.regs.pc ≡ p
    → Stands c p (Ediv ∷ Fdiv ∷ rest) → s.regs.x ≡ suc w → s.regs.y * 2 ^ 16 + (s.regs.a * 2 ^ 8 + s.regs.b) ≡ n
    → n ≤ 255 * suc w → Divided c s (p + 1 + 2) n w
divided c p n w s rest l ep st ex en le =
    let q = quotient_small w n le in
    let nz : s.regs.x ≢ 0 = omega arith in
    let eq : n / s.regs.x ≡ n / suc w = ap (λ k. n / k) ex in
    let em : n % s.regs.x ≡ n % suc w = ap (λ k. n % k) ex in
    let e = divided_is c.flags s.regs n en nz (omega arith) in
    let s1 = after_plain c.flags Ediv s in
    let s2 = after_plain c.flags Fdiv s1 in
    let n1 = straight c s p _ l ep st.0 refl tt tt in
    let x1 : s1.regs.x ≡ suc w = ap (λ (r : Regs). r.x) e ∙ ex in
    let a1 : s1.regs.a ≡ n % s.regs.x / 2 ^ 8 = ap (λ (r : Regs). r.a) e in
    let b1 : s1.regs.b ≡ n % s.regs.x % 2 ^ 8 = ap (λ (r : Regs). r.b) e in
    let d1 : s1.regs.a * 2 ^ 8 + s1.regs.b ≡ n % suc w = omega arith in
    let lt : n % suc w < suc w = mod-lt n (omega arith) in
    let f = fraction_is s1.regs (n % suc w) d1 (omega arith) in
    let n2 = straight c s1 (p + 1) _ n1.live n1.pc_is st.1.0 refl tt tt in
    record {
      t = s2;
      goes = goes_on c 1 0 1 0 s s1 s2 (goes_one c s s1 (p + 1) n1) (goes_one c s1 s2 (p + 1 + 2) n2);
      live = n2.live;
      pc_is = n2.pc_is;
      y_is = ap (λ (r : Regs). r.y) f ∙ ediv_y c s n en nz (omega arith) ∙ eq;
      x_is = ap (λ (r : Regs). r.x) f ∙ ap (λ k. n % suc w * 2 ^ 16 / k) x1;
      mem_is = refl;
      sp_is = ap (λ (r : Regs). r.sp) f ∙ ediv_sp c s;
    }

-- both stored
record Stored (c : Ctx) (s : State) (pc at high low : ℕ) : Type 0 where
  t : State
  goes : Goes c 4 0 s t
  live : Live c t
  pc_is : t.regs.pc ≡ pc
  mem_is : t.mem ≡ set (set s.mem at high) (at + 1) low
  sp_is : t.regs.sp ≡ s.regs.sp

stored : (c : Ctx) (at p high low : ℕ) (s : State) (rest : List Instr) → Live c s → s.regs.pc ≡ p
    → Stands c p (TransferYD ∷ StabExtended at ∷ TransferXD ∷ StaaExtended (at + 1) ∷ rest) → s.regs.y ≡ high
    → high < 256 → s.regs.x / 2 ^ 8 ≡ low → Writes c.memory_map at → Writes c.memory_map (at + 1)
    → Stored c s (p + 2 + 3 + 2 + 3) at high low
stored c at p high low s rest l ep st ey lt ex wa wb =
    let s1 = after_plain c.flags TransferYD s in
    let s2 = after_plain c.flags (StabExtended at) s1 in
    let s3 = after_plain c.flags TransferXD s2 in
    let s4 = after_plain c.flags (StaaExtended (at + 1)) s3 in
    let n1 = straight c s p _ l ep st.0 refl tt tt in
    let n2 = straight c s1 (p + 2) _ n1.live n1.pc_is st.1.0 refl tt (wa, tt) in
    let n3 = straight c s2 (p + 2 + 3) _ n2.live n2.pc_is st.1.1.0 refl tt tt in
    let n4 = straight c s3 (p + 2 + 3 + 2) _ n3.live n3.pc_is st.1.1.1.0 refl tt (wb, tt) in
    let eb : s1.regs.b ≡ high = ap (λ k. k % 2 ^ 8) ey ∙ omega arith in
    record {
      t = s4;
      goes = goes_on c 1 0 3 0 s s1 s4 (goes_one c s s1 (p + 2) n1)
          (goes_on c 1 0 2 0 s1 s2 s4 (goes_one c s1 s2 (p + 2 + 3) n2)
          (goes_on c 1 0 1 0 s2 s3 s4 (goes_one c s2 s3 (p + 2 + 3 + 2) n3) (goes_one c s3 s4 (p + 2 + 3 + 2 + 3) n4)));
      live = n4.live;
      pc_is = n4.pc_is;
      mem_is = ap₂ (λ a b. set (set s.mem at a) (at + 1) b) eb ex;
      sp_is = refl;
    }

-- the bytes of 256 times a quotient
byte_small : (n w : ℕ) → n < 256 * suc w → n / suc w < 256
byte_small n w h = grind (arith, div-lt_iff_lt-mul)

word_high : (n w : ℕ) → 256 * n / suc w / 2 ^ 8 ≡ n / suc w
word_high n w =
    let e : 256 * n ≡ n * 256 = omega arith in
    div-div-eq-div-mul (256 * n) (suc w) 256 ∙ ap (λ k. k / (suc w * 256)) e
    ∙ mul-div-mul_right {m = 256} n (suc w) (omega arith)

word_low : (n w : ℕ) → 256 * n / suc w % 2 ^ 8 ≡ n % suc w * 2 ^ 16 / suc w / 2 ^ 8
word_low n w =
    let q = n / suc w in
    let r = n % suc w in
    let lt : r < suc w = mod-lt n (omega arith) in
    let split : q * suc w + r ≡ n = div-add-mod' n (suc w) in
    let dist : 256 * q * suc w ≡ 256 * (q * suc w) = grind arith in
    let e : 256 * n ≡ 256 * q * suc w + 256 * r = omega arith in
    let whole : 256 * n / suc w ≡ 256 * q + 256 * r / suc w =
    ap (λ k. k / suc w) e ∙ mul-add-div_right {m = suc w} (omega arith) (256 * q) (256 * r) in
    let small = byte_small (256 * r) w (omega arith) in
    let f : r * 2 ^ 16 ≡ 256 * r * 256 = omega arith in
    let back : r * 2 ^ 16 / suc w / 2 ^ 8 ≡ 256 * r / suc w = div-div-eq-div-mul (r * 2 ^ 16) (suc w) 256
    ∙ ap (λ k. k / (suc w * 256)) f ∙ mul-div-mul_right {m = 256} (256 * r) (suc w) (omega arith) in
    omega arith

-- the code for a word
abbrev pub word : ℕ → ℕ → Option ℕ → ℕ → ℕ
word w n d before = quotient_of Word w n d before

pub word_run : (c : Ctx) (at p n w : ℕ) (d : Option ℕ) (before : ℕ) (s : State) → Live c s → s.regs.pc ≡ p
    → Stands c p (quotient_code Word at d) → s.regs.x ≡ w → s.regs.y * 2 ^ 16 + (s.regs.a * 2 ^ 8 + s.regs.b) ≡ n
    → n ≤ 255 * w → HasBytes s.mem at (bytes_of Word before) → Writes c.memory_map at → Writes c.memory_map (at + 1)
    → Reaches c (quotient_most Word d) 0 s (p + code_size (quotient_code Word at d))
    (put s.mem at (bytes_of Word (word w n d before)))
word_run c at p n zero (Some d) before s l ep st ex en le hb wa wb =
    let s1 = after_plain c.flags (CpxImmediate 0) s in
    let s2 = after_plain c.flags (Beq 15) s1 in
    let s3 = after_plain c.flags (LdabImmediate d) s2 in
    let s4 = after_plain c.flags (StabExtended at) s3 in
    let s5 = after_plain c.flags (ClrExtended (at + 1)) s4 in
    let x0 : (s.regs.x == 0) ≡ true = grind (arith, nat_tests) in
    let n1 = straight c s p _ l ep st.0 refl tt tt in
    let z : has s1.regs.ccr 2 ≡ true = cpx_zero c s l.fits.x ∙ x0 in
    let tail = st.1.1.1.1.1.1.1.1.1 in
    let n2 = beq_off c s1 (p + 3) 15 n1.live n1.pc_is st.1.0 (omega arith) (omega (arith, tail.0.high)) z in
    let h3 = stands_at c (p + 3 + 2 + 1 + 2 + 2 + 3 + 2 + 3 + 2) (p + 3 + 2 + 15)
    (LdabImmediate d ∷ StabExtended at ∷ ClrExtended (at + 1) ∷ []) (omega arith) tail in
    let small = h3.0.fits in
    let n3 = straight c s2 (p + 3 + 2 + 15) _ n2.live n2.pc_is h3.0 refl tt tt in
    let n4 = straight c s3 (p + 3 + 2 + 15 + 2) _ n3.live n3.pc_is h3.1.0 refl tt (wa, tt) in
    let n5 = straight c s4 (p + 3 + 2 + 15 + 2 + 3) _ n4.live n4.pc_is h3.1.1.0 refl tt (wb, tt) in
    let g = goes_on c 1 0 4 0 s s1 s5 (goes_one c s s1 (p + 3) n1)
    (goes_on c 1 0 3 0 s1 s2 s5 (goes_one c s1 s2 (p + 3 + 2 + 15) n2)
    (goes_on c 1 0 2 0 s2 s3 s5 (goes_one c s2 s3 (p + 3 + 2 + 15 + 2) n3)
    (goes_on c 1 0 1 0 s3 s4 s5 (goes_one c s3 s4 (p + 3 + 2 + 15 + 2 + 3) n4)
    (goes_one c s4 s5 (p + 3 + 2 + 15 + 2 + 3 + 3) n5)))) in
    let high : 256 * d / 2 ^ 8 ≡ d = omega arith in
    let low : 256 * d % 2 ^ 8 ≡ 0 = omega arith in
    reaches_at c 5 0 _ _ s _ _ _ _ (omega arith) (omega arith) (omega arith)
    (sym (ap₂ (λ a b. set (set s.mem at a) (at + 1) b) high low))
    (record { t = s5; goes = g; live = n5.live; pc_is = n5.pc_is; mem_is = refl; sp_is = refl })
word_run c at p n zero None before s l ep st ex en le hb wa wb =
    let s1 = after_plain c.flags (CpxImmediate 0) s in
    let s2 = after_plain c.flags (Beq 13) s1 in
    let x0 : (s.regs.x == 0) ≡ true = grind (arith, nat_tests) in
    let n1 = straight c s p _ l ep st.0 refl tt tt in
    let z : has s1.regs.ccr 2 ≡ true = cpx_zero c s l.fits.x ∙ x0 in
    let n2 = beq_off c s1 (p + 3) 13 n1.live n1.pc_is st.1.0 (omega arith) (omega (arith, st.1.1.1.1.1.1.1.0.high)) z in
    let g = goes_on c 1 0 1 0 s s1 s2 (goes_one c s s1 (p + 3) n1) (goes_one c s1 s2 (p + 3 + 2 + 13) n2) in
    let same : s.mem ≡ put s.mem at (bytes_of Word before) =
    sym (ap₂ (λ a b. set (set s.mem at a) (at + 1) b) (sym hb.0) (sym hb.1.0)
    ∙ ap (λ m. set m (at + 1) (get_or s.mem (at + 1) 0)) (set-get_or s.mem at 0) ∙ set-get_or s.mem (at + 1) 0) in
    reaches_at c 2 0 _ _ s _ _ _ _ (omega arith) (omega arith) (omega arith) same
    (record { t = s2; goes = g; live = n2.live; pc_is = n2.pc_is; mem_is = refl; sp_is = refl })
word_run c at p n (suc w) d before s l ep st ex en le hb wa wb = by_default d st
  where
    no : (suc w == 0) ≡ false
    no = grind (arith, nat_tests)

    fired : (d : Option ℕ) → 256 * n / suc w ≡ word (suc w) n d before
    fired d = rw no

    x0 : (s.regs.x == 0) ≡ false
    x0 = grind (arith, nat_tests)

    z : has (after_plain c.flags (CpxImmediate 0) s).regs.ccr 2 ≡ false
    z = cpx_zero c s l.fits.x ∙ x0

    held : (d : Option ℕ) (m : List ℕ) → m ≡ s.mem
        → set (set m at (n / suc w)) (at + 1) (n % suc w * 2 ^ 16 / suc w / 2 ^ 8) ≡ put s.mem at
        (bytes_of Word (word (suc w) n d before))
    held d m e = ap (λ k. set (set k at (n / suc w)) (at + 1) (n % suc w * 2 ^ 16 / suc w / 2 ^ 8)) e
        ∙ sym (ap₂ (λ a b. set (set s.mem at a) (at + 1) b) (word_high n w) (word_low n w))
        ∙ ap (λ a. put s.mem at (bytes_of Word a)) (fired d)

    by_default : (d : Option ℕ) → Stands c p (quotient_code Word at d)
        → Reaches c (quotient_most Word d) 0 s (p + code_size (quotient_code Word at d))
        (put s.mem at (bytes_of Word (word (suc w) n d before)))
    by_default None st =
        let s1 = after_plain c.flags (CpxImmediate 0) s in
        let s2 = after_plain c.flags (Beq 13) s1 in
        let n1 = straight c s p _ l ep st.0 refl tt tt in
        let n2 = beq_on c s1 (p + 3) 13 n1.live n1.pc_is st.1.0 (omega arith) z in
        let q = divided c (p + 3 + 2) n w s2 (TransferYD ∷ StabExtended at ∷ TransferXD ∷ StaaExtended (at + 1) ∷ [])
        n2.live n2.pc_is st.1.1 ex en le in
        let r = stored c at (p + 3 + 2 + 1 + 2) (n / suc w) (n % suc w * 2 ^ 16 / suc w / 2 ^ 8) q.t [] q.live q.pc_is
        st.1.1.1.1 q.y_is (quotient_small w n le) (ap (λ k. k / 2 ^ 8) q.x_is) wa wb in
        let g = goes_on c 1 0 7 0 s s1 r.t (goes_one c s s1 (p + 3) n1)
        (goes_on c 1 0 6 0 s1 s2 r.t (goes_one c s1 s2 (p + 3 + 2) n2)
        (goes_on c 2 0 4 0 s2 q.t r.t q.goes r.goes)) in
        reaches_at c 8 0 _ _ s _ _ _ _ (omega arith) (omega arith) (omega arith) (held None q.t.mem q.mem_is)
        (record { t = r.t; goes = g; live = r.live; pc_is = r.pc_is; mem_is = r.mem_is; sp_is = r.sp_is ∙ q.sp_is })
    by_default (Some d) st =
        let s1 = after_plain c.flags (CpxImmediate 0) s in
        let s2 = after_plain c.flags (Beq 15) s1 in
        let rest : List Instr = Bra 8 ∷ LdabImmediate d ∷ StabExtended at ∷ ClrExtended (at + 1) ∷ [] in
        let n1 = straight c s p _ l ep st.0 refl tt tt in
        let n2 = beq_on c s1 (p + 3) 15 n1.live n1.pc_is st.1.0 (omega arith) z in
        let q = divided c (p + 3 + 2) n w s2 (TransferYD ∷ StabExtended at ∷ TransferXD ∷ StaaExtended (at + 1) ∷ rest)
        n2.live n2.pc_is st.1.1 ex en le in
        let r = stored c at (p + 3 + 2 + 1 + 2) (n / suc w) (n % suc w * 2 ^ 16 / suc w / 2 ^ 8) q.t rest q.live q.pc_is
        st.1.1.1.1 q.y_is (quotient_small w n le) (ap (λ k. k / 2 ^ 8) q.x_is) wa wb in
        let u = after_plain c.flags (Bra 8) r.t in
        let tail = st.1.1.1.1.1.1.1.1 in
        let n3 = bra_on c r.t (p + 3 + 2 + 1 + 2 + 2 + 3 + 2 + 3) 8 r.live r.pc_is tail.0 (omega arith)
        (omega (arith, tail.1.1.1.0.high)) in
        let g = goes_on c 1 0 8 0 s s1 u (goes_one c s s1 (p + 3) n1)
        (goes_on c 1 0 7 0 s1 s2 u (goes_one c s1 s2 (p + 3 + 2) n2)
        (goes_on c 2 0 5 0 s2 q.t u q.goes (goes_on c 4 0 1 0 q.t r.t u r.goes (goes_one c r.t u _ n3)))) in
        reaches_at c 9 0 _ _ s _ _ _ _ (omega arith) (omega arith) (omega arith) (held (Some d) q.t.mem q.mem_is)
        (record { t = u; goes = g; live = n3.live; pc_is = n3.pc_is; mem_is = r.mem_is; sp_is = r.sp_is ∙ q.sp_is })
