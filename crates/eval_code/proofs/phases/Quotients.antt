-- One output's answer, and all of them.
use Rattle.eval_code.proofs.Words.{[], ◌%◌, ◌*◌, ◌+◌, ◌-◌, ◌/◌, ◌<◌, ◌==◌, ◌^◌, ◌∙◌, ◌∷◌, ◌≡◌, ◌≢◌, ◌≤◌, after_plain}
use Rattle.eval_code.proofs.Words.{ap, ap₂, arith, Beq, Bra, CpxImmediate, div-lt_iff_lt-mul, Ediv, false, get_or}
use Rattle.eval_code.proofs.Words.{has, if◌then◌else◌, Instr, LdabImmediate, length, List, nat_tests, nearest_byte}
use Rattle.eval_code.proofs.Words.{None, Option, option_map, option_map_or, Output, parts, quotient_code, refl, set}
use Rattle.eval_code.proofs.Words.{set-get_or, Some, StabExtended, State, suc, sym, TransferYD, true, Width, Word}
use Rattle.eval_code.proofs.Words.{Writes, zero, ℕ}
use Rattle.byte_scaling.specs.{declared.width.Width.TheVariants.Byte}
use Rattle.eval_code.proofs.Sizes.{code_size}
use Rattle.eval_code.proofs.steps.Stepping.{Ctx, Live, Stands, Goes, goes_one, goes_on, stands_at, Reaches}
use Rattle.eval_code.proofs.steps.Stepping.{reaches_at}
use Rattle.eval_code.proofs.steps.Instructions.{straight, cpx_zero, beq_on, beq_off, bra_on, ediv_y, ediv_sp}

-- the quotient of the sums, rounded down; where there is no mass the default, or with NC the answer before
abbrev pub quotient_of : Width → ℕ → ℕ → Option ℕ → ℕ → ℕ
quotient_of w mass sum default before =
    if mass == 0 then option_map_or (λ d. parts w * d) default before else parts w * sum / mass

-- the most that the quotient's code takes
abbrev pub quotient_most : Width → Option ℕ → ℕ
quotient_most Byte (Some d) = 6
quotient_most Byte None = 5
quotient_most Word (Some d) = 9
quotient_most Word None = 8

abbrev pub output_most : Width → Output → ℕ
output_most w o = 4 + quotient_most w (option_map (nearest_byte o) o.default)

pub quotient_small : (w n : ℕ) → n ≤ 255 * suc w → n / suc w < 256
quotient_small w n h = grind (arith, div-lt_iff_lt-mul)

-- parts of WAV beyond the first
abbrev pub output_parts : List Output → ℕ
output_parts [] = 0
output_parts (o ∷ os) = (length o.singletons - 1) + output_parts os

-- the quotient, where the sum of the masses is not 0
divided_run : (c : Ctx) (at p n w : ℕ) (s : State) (rest : List Instr) → Live c s → s.regs.pc ≡ p
    → Stands c p (Ediv ∷ TransferYD ∷ rest) → s.regs.x ≡ suc w → s.regs.y * 2 ^ 16 + (s.regs.a * 2 ^ 8 + s.regs.b) ≡ n
    → n ≤ 255 * suc w
    → (t : State) × (Goes c 2 0 s t × Live c t × (t.regs.pc ≡ p + 1 + 2) × (t.regs.b ≡ n / suc w) × (t.mem ≡ s.mem)
    × (t.regs.sp ≡ s.regs.sp))
divided_run c at p n w s rest l ep st ex en le =
    let q = quotient_small w n le in
    let nz : s.regs.x ≢ 0 = omega arith in
    let eq : n / s.regs.x ≡ n / suc w = ap (λ k. n / k) ex in
    let s1 = after_plain c.flags Ediv s in
    let s2 = after_plain c.flags TransferYD s1 in
    let n1 = straight c s p _ l ep st.0 refl tt tt in
    let n2 = straight c s1 (p + 1) _ n1.live n1.pc_is st.1.0 refl tt tt in
    let ey : s1.regs.y ≡ n / suc w = ediv_y c s n en nz (omega arith) ∙ eq in
    let eb : s2.regs.b ≡ n / suc w = ap (λ k. k % 2 ^ 8) ey ∙ omega arith in
    let em : s2.mem ≡ s.mem = refl in (
      s2,
      (
        goes_on c 1 0 1 0 s s1 s2 (goes_one c s s1 (p + 1) n1) (goes_one c s1 s2 (p + 1 + 2) n2),
        n2.live,
        n2.pc_is,
        eb,
        em,
        ediv_sp c s,
      ),
    )

-- from CPX on: the default, or none, where the sum of the masses is 0, and else the quotient
pub quotient_run : (c : Ctx) (at p n w : ℕ) (d : Option ℕ) (s : State) → Live c s → s.regs.pc ≡ p
    → Stands c p (quotient_code Byte at d) → s.regs.x ≡ w → s.regs.y * 2 ^ 16 + (s.regs.a * 2 ^ 8 + s.regs.b) ≡ n
    → n ≤ 255 * w → Writes c.memory_map at
    → Reaches c (quotient_most Byte d) 0 s (p + code_size (quotient_code Byte at d))
    (set s.mem at (quotient_of Byte w n d (get_or s.mem at 0)))
quotient_run c at p n zero (Some d) s l ep st ex en le lt =
    let s1 = after_plain c.flags (CpxImmediate 0) s in
    let s2 = after_plain c.flags (Beq 5) s1 in
    let s3 = after_plain c.flags (LdabImmediate d) s2 in
    let s4 = after_plain c.flags (StabExtended at) s3 in
    let x0 : (s.regs.x == 0) ≡ true = grind (arith, nat_tests) in
    let n1 = straight c s p _ l ep st.0 refl tt tt in
    let z : has s1.regs.ccr 2 ≡ true = cpx_zero c s l.fits.x ∙ x0 in
    let n2 = beq_off c s1 (p + 3) 5 n1.live n1.pc_is st.1.0 (omega arith) (omega (arith, st.1.1.1.1.1.0.high)) z in
    let h3 = stands_at c (p + 3 + 2 + 1 + 2 + 2) (p + 3 + 2 + 5) (LdabImmediate d ∷ StabExtended at ∷ [])
    (omega arith) st.1.1.1.1.1 in
    let n3 = straight c s2 (p + 3 + 2 + 5) _ n2.live n2.pc_is h3.0 refl tt tt in
    let n4 = straight c s3 (p + 3 + 2 + 5 + 2) _ n3.live n3.pc_is h3.1.0 refl tt (lt, tt) in
    let g = goes_on c 1 0 3 0 s s1 s4 (goes_one c s s1 (p + 3) n1)
    (goes_on c 1 0 2 0 s1 s2 s4 (goes_one c s1 s2 (p + 3 + 2 + 5) n2)
    (goes_on c 1 0 1 0 s2 s3 s4 (goes_one c s2 s3 (p + 3 + 2 + 5 + 2) n3)
    (goes_one c s3 s4 (p + 3 + 2 + 5 + 2 + 3) n4))) in
    let one : d ≡ 1 * d = omega arith in
    reaches_at c 4 0 _ _ s _ _ _ _ (omega arith) (omega arith) (omega arith) (ap (set s.mem at) one)
    (record { t = s4; goes = g; live = n4.live; pc_is = n4.pc_is; mem_is = refl; sp_is = refl })
quotient_run c at p n zero None s l ep st ex en le lt =
    let s1 = after_plain c.flags (CpxImmediate 0) s in
    let s2 = after_plain c.flags (Beq 6) s1 in
    let x0 : (s.regs.x == 0) ≡ true = grind (arith, nat_tests) in
    let n1 = straight c s p _ l ep st.0 refl tt tt in
    let z : has s1.regs.ccr 2 ≡ true = cpx_zero c s l.fits.x ∙ x0 in
    let n2 = beq_off c s1 (p + 3) 6 n1.live n1.pc_is st.1.0 (omega arith) (omega (arith, st.1.1.1.1.0.high)) z in
    let g = goes_on c 1 0 1 0 s s1 s2 (goes_one c s s1 (p + 3) n1) (goes_one c s1 s2 (p + 3 + 2 + 6) n2) in
    reaches_at c 2 0 _ _ s _ _ _ _ (omega arith) (omega arith) (omega arith) (sym (set-get_or s.mem at 0))
    (record { t = s2; goes = g; live = n2.live; pc_is = n2.pc_is; mem_is = refl; sp_is = refl })
quotient_run c at p n (suc w) d s l ep st ex en le lt = by_default d st
  where
    no : (suc w == 0) ≡ false
    no = grind (arith, nat_tests)

    fired : (d : Option ℕ) (before : ℕ) → n / suc w ≡ quotient_of Byte (suc w) n d before
    fired d before = let one : n ≡ 1 * n = omega arith in
        ap (λ k. k / suc w) one ∙ (let f : 1 * n / suc w ≡ quotient_of Byte (suc w) n d before = rw no in f)

    s1 : State
    s1 = after_plain c.flags (CpxImmediate 0) s

    x0 : (s.regs.x == 0) ≡ false
    x0 = grind (arith, nat_tests)

    z : has (after_plain c.flags (CpxImmediate 0) s).regs.ccr 2 ≡ false
    z = cpx_zero c s l.fits.x ∙ x0

    by_default : (d : Option ℕ) → Stands c p (quotient_code Byte at d)
        → Reaches c (quotient_most Byte d) 0 s (p + code_size (quotient_code Byte at d))
        (set s.mem at (quotient_of Byte (suc w) n d (get_or s.mem at 0)))
    by_default None st =
        let s1 = after_plain c.flags (CpxImmediate 0) s in
        let s2 = after_plain c.flags (Beq 6) s1 in
        let n1 = straight c s p _ l ep st.0 refl tt tt in
        let n2 = beq_on c s1 (p + 3) 6 n1.live n1.pc_is st.1.0 (omega arith) z in
        let q = divided_run c at (p + 3 + 2) n w s2 (StabExtended at ∷ []) n2.live n2.pc_is st.1.1 ex en le in
        let s5 = after_plain c.flags (StabExtended at) q.0 in
        let n5 = straight c q.0 (p + 3 + 2 + 1 + 2) _ q.1.1 q.1.2 st.1.1.1.1.0 refl tt (lt, tt) in
        let g = goes_on c 1 0 4 0 s s1 s5 (goes_one c s s1 (p + 3) n1)
        (goes_on c 1 0 3 0 s1 s2 s5 (goes_one c s1 s2 (p + 3 + 2) n2)
        (goes_on c 2 0 1 0 s2 q.0 s5 q.1.0 (goes_one c q.0 s5 (p + 3 + 2 + 1 + 2 + 3) n5))) in
        reaches_at c 5 0 _ _ s _ _ _ _ (omega arith) (omega arith) (omega arith)
        (ap₂ (λ (m : List ℕ) (v : ℕ). set m at v) q.1.4 (q.1.3 ∙ fired None (get_or s.mem at 0)))
        (record { t = s5; goes = g; live = n5.live; pc_is = n5.pc_is; mem_is = refl; sp_is = q.1.5 })
    by_default (Some d) st =
        let s1 = after_plain c.flags (CpxImmediate 0) s in
        let s2 = after_plain c.flags (Beq 5) s1 in
        let n1 = straight c s p _ l ep st.0 refl tt tt in
        let n2 = beq_on c s1 (p + 3) 5 n1.live n1.pc_is st.1.0 (omega arith) z in
        let q = divided_run c at (p + 3 + 2) n w s2 (Bra 2 ∷ LdabImmediate d ∷ StabExtended at ∷ []) n2.live n2.pc_is
        st.1.1 ex en le in
        let s4 = after_plain c.flags (Bra 2) q.0 in
        let n4 = bra_on c q.0 (p + 3 + 2 + 1 + 2) 2 q.1.1 q.1.2 st.1.1.1.1.0 (omega arith)
        (omega (arith, st.1.1.1.1.1.1.0.high)) in
        let s5 = after_plain c.flags (StabExtended at) s4 in
        let n5 = straight c s4 (p + 3 + 2 + 1 + 2 + 2 + 2) _ n4.live n4.pc_is st.1.1.1.1.1.1.0 refl tt (lt, tt) in
        let g = goes_on c 1 0 5 0 s s1 s5 (goes_one c s s1 (p + 3) n1)
        (goes_on c 1 0 4 0 s1 s2 s5 (goes_one c s1 s2 (p + 3 + 2) n2)
        (goes_on c 2 0 2 0 s2 q.0 s5 q.1.0
        (goes_on c 1 0 1 0 q.0 s4 s5 (goes_one c q.0 s4 (p + 3 + 2 + 1 + 2 + 2 + 2) n4)
        (goes_one c s4 s5 (p + 3 + 2 + 1 + 2 + 2 + 2 + 3) n5)))) in
        reaches_at c 6 0 _ _ s _ _ _ _ (omega arith) (omega arith) (omega arith)
        (ap₂ (λ (m : List ℕ) (v : ℕ). set m at v) q.1.4 (q.1.3 ∙ fired (Some d) (get_or s.mem at 0)))
        (record { t = s5; goes = g; live = n5.live; pc_is = n5.pc_is; mem_is = refl; sp_is = q.1.5 })
