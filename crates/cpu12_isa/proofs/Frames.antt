-- What is pushed of the registers is pulled again, and what a frame gives is pulled over any registers alike.
use Rattle.std.proofs.Common.{◌≡◌, ℕ, ◌+◌, ◌*◌, ◌/◌, ◌%◌, ◌^◌, ◌<◌, List, get_or, true, ap, ap₂, ◌∙◌, arith, bit_or}
use Rattle.std.proofs.lemmas.Nat.{and_le_l}
use Rattle.cpu12_isa.specs.{declared.instr.Regs.Regs, declared.instr.Ccr.Ccr, Interrupts.FrameComesBack, Memory.plus}
use Rattle.cpu12_isa.specs.Flags.{put, pulled_flags, interrupts_masked}
use Rattle.cpu12_isa.specs.{Fits.FitsRegs, Registers.frame_bytes, Registers.pulled}
use Rattle.cpu12_isa.proofs.Bits.{bit, bit_and_is, bit_or_is, pulled_again, same_ccr}

pub frame_comes_back : FrameComesBack
frame_comes_back r f =
    let x : r.x / 2 ^ 8 * 2 ^ 8 + r.x % 2 ^ 8 ≡ r.x = omega arith in
    let y : r.y / 2 ^ 8 * 2 ^ 8 + r.y % 2 ^ 8 ≡ r.y = omega arith in
    let p : r.pc / 2 ^ 8 * 2 ^ 8 + r.pc % 2 ^ 8 ≡ r.pc = omega arith in
    let sp : plus (plus r.sp 65527) 9 ≡ r.sp = (let g = f.sp in omega arith) in
    let masked : Ccr = put r.ccr interrupts_masked true in
    let c : pulled_flags masked r.ccr.0 ≡ r.ccr = pulled_again r.ccr f.ccr in
    let up = plus (plus r.sp 65527) 9 in
    let yy = r.y / 2 ^ 8 * 2 ^ 8 + r.y % 2 ^ 8 in
    let pp = r.pc / 2 ^ 8 * 2 ^ 8 + r.pc % 2 ^ 8 in
    let there : ℕ → ℕ → ℕ → ℕ → Ccr → Regs = λ a b i j d. record r { x = a; y = b; pc = i; sp = j; ccr = d } in
    ap (λ (n : ℕ). there n yy pp up (pulled_flags masked r.ccr.0)) x
    ∙ ap (λ (n : ℕ). there r.x n pp up (pulled_flags masked r.ccr.0)) y
    ∙ ap (λ (n : ℕ). there r.x r.y n up (pulled_flags masked r.ccr.0)) p
    ∙ ap (λ (n : ℕ). there r.x r.y r.pc n (pulled_flags masked r.ccr.0)) sp
    ∙ ap (there r.x r.y r.pc r.sp) c

-- flags are pulled alike where X is the same
pulls_alike : (c d : Ccr) (b : ℕ) → b < 2 ^ 8 → bit c.0 6 ≡ bit d.0 6 → pulled_flags c b ≡ pulled_flags d b
pulls_alike c d b f x =
    same_ccr (pulled_flags c b) (pulled_flags d b) (let h = and_le_l b (bit_or c.0 191) in omega arith)
    (let h = and_le_l b (bit_or d.0 191) in omega arith) (simp (bit_or_is, bit_and_is, x))

-- and so are all registers from a frame
pub pulled_alike : (r q s : Regs) (xs : List ℕ) → s.ccr.0 < 2 ^ 8 → xs ≡ frame_bytes s → r.sp ≡ q.sp
    → bit r.ccr.0 6 ≡ bit q.ccr.0 6 → pulled r xs ≡ pulled q xs
pulled_alike r q s xs f e sp x =
    let b : get_or xs 0 0 ≡ s.ccr.0 = ap (λ (l : List ℕ). get_or l 0 0) e in
    let c : pulled_flags r.ccr (get_or xs 0 0) ≡ pulled_flags q.ccr (get_or xs 0 0) =
    pulls_alike r.ccr q.ccr (get_or xs 0 0) (omega (arith, b)) x in
    ap₂ (λ (n : ℕ) (d : Ccr). record (pulled r xs) { sp = plus n 9; ccr = d }) sp c

-- registers that fit, with another SP
pub fits_with_sp : (r : Regs) (k : ℕ) → FitsRegs r → k < 2 ^ 16 → FitsRegs (record r { sp = k })
fits_with_sp r k f h = record { a = f.a; b = f.b; x = f.x; y = f.y; sp = h; pc = f.pc; ccr = f.ccr }
