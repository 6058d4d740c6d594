-- Parts leave what fits.
use Rattle.std.proofs.Common.{ℕ, ◌+◌, ◌-◌, ◌*◌, ◌%◌, ◌^◌, ◌<◌, ◌≤◌, ◌==◌, min, max, Bool, true, false, if◌then◌else◌}
use Rattle.std.proofs.Common.{[], ◌∷◌, arith}
use Rattle.std.proofs.Math.Nat.{div-lt_iff_lt-mul, mul-le-mul_left}
use Rattle.cpu12_isa.specs.declared.{instr.Regs.Regs, instr.Ccr.Ccr}
use Rattle.cpu12_isa.specs.Flags.{has, put, opened, carry, overflow, zero_result, hnzc, hnz, hnvc, hnzvc}
use Rattle.cpu12_isa.specs.{Act.Act, Act.Give, Act.Get, Memory.plus, Memory.word_of, Fits.FitsRegs, Fits.Leaves}
use Rattle.cpu12_isa.proofs.Algebra.{fits_put, fits_opened, leaves_outcome}
use Rattle.cpu12_parts.specs.declared.temps.Temps.{Temps}
use Rattle.cpu12_parts.specs.declared.temps.Temps.TheVariants.{Free, Running, OnStack}
use Rattle.cpu12_parts.specs.declared.temps.PartEnd.TheVariants.{More, Done}
use Rattle.cpu12_parts.specs.{State.Outcome, Fits.FitsTemps, Fits.FitsOutcome, Fits.PartFits}
use Rattle.cpu12_parts.specs.Parts.{rev, revw, wav, leaving, weighted, met, element, rev_element, rev_act, revw_element}
use Rattle.cpu12_parts.specs.Parts.{revw_act, wav_end, wav_from, wav_act}

leaves_if : (b : Bool) (p q : Act Outcome) → Leaves FitsOutcome p → Leaves FitsOutcome q
    → Leaves FitsOutcome (if b then p else q)
leaves_if true p q f g = f
leaves_if false p q f g = g

min_fits : (a v : ℕ) → a < 2 ^ 8 → min a v < 2 ^ 8
min_fits a v f = omega arith

max_fits : (v a : ℕ) → v < 2 ^ 8 → a < 2 ^ 8 → max v a < 2 ^ 8
max_fits v a f g = omega arith

weighted_fits : (a w : ℕ) → a < 2 ^ 8 → w < 2 ^ 8 → weighted a w < 2 ^ 8
weighted_fits a w f g =
    (div-lt_iff_lt-mul {k = 2 ^ 8} {x = a * (w + 1)} {y = 2 ^ 8} (omega arith)).1
    (product_fits a (w + 1) f (omega arith))
  where
    product_fits : (m n : ℕ) → m < 2 ^ 8 → n ≤ 2 ^ 8 → m * n < 2 ^ 8 * 2 ^ 8
    product_fits m n h k =
        let a : m * n ≤ m * 2 ^ 8 = mul-le-mul_left m k in
        omega (arith, a)

-- registers with flags, A, X and Y changed
regs_fit : (r : Regs) (a x y pc : ℕ) (c : Ccr) → FitsRegs r → a < 2 ^ 8 → x < 2 ^ 16 → y < 2 ^ 16 → pc < 2 ^ 16
    → c.0 < 2 ^ 8
    → FitsRegs (record r { a = a; x = x; y = y; pc = pc; ccr = c })
regs_fit r a x y pc c f fa fx fy fp fc = record { a = fa; b = f.b; x = fx; y = fy; sp = f.sp; pc = fp; ccr = fc }

-- and with V put
turned_fit : (r : Regs) (a x y : ℕ) (c : Ccr) (b : Bool) → FitsRegs r → a < 2 ^ 8 → x < 2 ^ 16 → y < 2 ^ 16
    → c.0 < 2 ^ 8
    → FitsRegs (record r { a = a; x = x; y = y; ccr = put c overflow b })
turned_fit r a x y c b f fa fx fy fc =
    regs_fit r a x y r.pc (put c overflow b) f fa fx fy f.pc (fits_put c overflow b (omega arith) fc)

-- an element that names a byte
met_fits : (s : Regs) (t : Temps) (x : ℕ) (c : Ccr) (at : ℕ) → FitsRegs s → FitsTemps t → x < 2 ^ 16 → c.0 < 2 ^ 8
    → at < 2 ^ 16
    → Leaves FitsOutcome (met s (record s { x = x; ccr = c }) t at)
met_fits s t x c at f ft fx fc fa v h =
    leaves_if (has s.ccr overflow)
    (Give (record { regs = record s { x = x; ccr = c }; temps = t; writes = (at, max v s.a) ∷ []; end = More }))
    (leaving (record s { x = x; ccr = c; a = min s.a v }) t More)
    (record {
      regs = regs_fit s s.a x s.y s.pc c f f.a fx f.y f.pc fc;
      temps = ft;
      writes =
          (fa, max_fits v s.a h f.a, tt);
    })
    (record {
      regs = regs_fit s (min s.a v) x s.y s.pc c f (min_fits s.a v f.a) fx f.y f.pc fc;
      temps =
          ft;
      writes = tt;
    })

element_fits : (s : Regs) (t : Temps) (x : ℕ) (c : Ccr) (stop separator e : ℕ) (turned : Act Outcome) (at : ℕ)
    → FitsRegs s → FitsTemps t → x < 2 ^ 16 → c.0 < 2 ^ 8 → at < 2 ^ 16 → Leaves FitsOutcome turned
    → Leaves FitsOutcome (element s (record s { x = x; ccr = c }) t stop separator e turned at)
element_fits s t x c stop separator e turned at f ft fx fc fa leaves =
    let r : Regs = record s { x = x; ccr = c } in
    let first : Act Outcome = leaving (record r { a = 255; ccr = put c overflow false }) t More in
    leaves_if (e == stop) (leaving (record r { pc = plus s.pc 2 }) t Done)
    (if e == separator then (if has s.ccr overflow then first else turned) else met s r t at)
    (record { regs = regs_fit s s.a x s.y (plus s.pc 2) c f f.a fx f.y (omega arith) fc; temps = ft; writes = tt })
    (leaves_if (e == separator) (if has s.ccr overflow then first else turned) (met s r t at)
    (leaves_if (has s.ccr overflow) first turned
    (record { regs = turned_fit s 255 x s.y c false f (omega arith) fx f.y fc; temps = ft; writes = tt }) leaves)
    (met_fits s t x c at f ft fx fc fa))

rev_leaves : (flags : ℕ) (s : Regs) (t : Temps) (e : ℕ) → flags < 2 ^ 8 → FitsRegs s → FitsTemps t
    → Leaves FitsOutcome (rev_element flags s t e)
rev_leaves flags s t e ff f ft =
    let c : Ccr = opened s.ccr hnzc flags in
    let fc : c.0 < 2 ^ 8 = fits_opened s.ccr hnzc flags f.ccr ff in
    element_fits s t (plus s.x 1) c 255 254 e
    (leaving (record s { x = plus s.x 1; ccr = put c overflow true }) t More) (plus s.y e) f ft (omega arith) fc
    (omega arith)
    (record { regs = turned_fit s s.a (plus s.x 1) s.y c true f f.a (omega arith) f.y fc; temps = ft; writes = tt })

pub rev_fits : PartFits rev
rev_fits flags s ff f =
    leaves_outcome FitsOutcome (rev_act flags s.regs s.temps) s.mem f.mem
    (λ e h. rev_leaves flags s.regs s.temps e ff f.regs f.temps)

revw_leaves : (flags : ℕ) (s : Regs) (t : Temps) (e : ℕ) → flags < 2 ^ 8 → e < 2 ^ 16 → FitsRegs s → FitsTemps t
    → Leaves FitsOutcome (revw_element flags s t e)
revw_leaves flags s t e ff fe f ft =
    let c : Ccr = opened s.ccr hnz flags in
    let fc : c.0 < 2 ^ 8 = fits_opened s.ccr hnz flags f.ccr ff in
    let turned : Regs = record s { x = plus s.x 2; ccr = put c overflow true } in
    let weighed : Act Outcome =
    Get s.y (λ w. leaving (record turned { a = weighted s.a w; y = plus s.y 1 }) t More) in
    let fit : (a y : ℕ) → a < 2 ^ 8 → y < 2 ^ 16 → FitsRegs (record turned { a = a; y = y }) =
    λ a y fa fy. turned_fit s a (plus s.x 2) y c true f fa (omega arith) fy fc in
    element_fits s t (plus s.x 2) c 65535 65534 e (if has s.ccr carry then weighed else leaving turned t More) e f ft
    (omega arith) fc fe
    (leaves_if (has s.ccr carry) weighed (leaving turned t More)
    (λ w h. record {
      regs = fit (weighted s.a w) (plus s.y 1) (weighted_fits s.a w f.a h) (omega arith);
      temps = ft;
      writes = tt;
    })
    (record { regs = fit s.a s.y f.a f.y; temps = ft; writes = tt }))

pub revw_fits : PartFits revw
revw_fits flags s ff f =
    leaves_outcome FitsOutcome (revw_act flags s.regs s.temps) s.mem f.mem
    (λ high h low l. revw_leaves flags s.regs s.temps (word_of high low) ff (omega arith) f.regs f.temps)

end_fits : (flags : ℕ) (r : Regs) (p w pc : ℕ) → flags < 2 ^ 8 → FitsRegs r → p < 2 ^ 32 → w < 2 ^ 16
    → FitsOutcome (record { regs = wav_end flags r p w pc; temps = Free; writes = []; end = Done })
end_fits flags r p w pc ff f fp fw = record {
  regs = record {
    a = omega arith;
    b = omega arith;
    x = fw;
    y = omega arith;
    sp = f.sp;
    pc = omega arith;
    ccr = fits_put (opened r.ccr hnvc flags) zero_result true (omega arith) (fits_opened r.ccr hnvc flags f.ccr ff);
  };
  temps = tt;
  writes = tt;
}

wav_leaves : (flags : ℕ) (r : Regs) (p w pc : ℕ) → flags < 2 ^ 8 → FitsRegs r → p < 2 ^ 32 → w < 2 ^ 16 → pc < 2 ^ 16
    → Leaves FitsOutcome (wav_from flags r p w pc)
wav_leaves flags r p w pc ff f fp fw fpc =
    let goes : ℕ → ℕ → Act Outcome = λ u v. (
    if r.b == 1 then leaving (wav_end flags r ((p + u * v) % 2 ^ 32) ((w + v) % 2 ^ 16) pc) Free Done
    else leaving (record r { x = plus r.x 1; y = plus r.y 1; b = r.b - 1; pc = pc; ccr = opened r.ccr hnzvc flags })
    (Running ((p + u * v) % 2 ^ 32) ((w + v) % 2 ^ 16)) More) in
    leaves_if (r.b == 0) (leaving (wav_end flags r p w pc) Free Done) (Get r.x (λ u. Get r.y (λ v. goes u v)))
    (end_fits flags r p w pc ff f fp fw)
    (λ u hu v hv. leaves_if (r.b == 1)
    (leaving (wav_end flags r ((p + u * v) % 2 ^ 32) ((w + v) % 2 ^ 16) pc) Free Done)
    (leaving (record r { x = plus r.x 1; y = plus r.y 1; b = r.b - 1; pc = pc; ccr = opened r.ccr hnzvc flags })
    (Running ((p + u * v) % 2 ^ 32) ((w + v) % 2 ^ 16)) More)
    (end_fits flags r ((p + u * v) % 2 ^ 32) ((w + v) % 2 ^ 16) pc ff f (omega arith) (omega arith))
    (record {
      regs = record {
        a = f.a;
        b = (let g = f.b in omega arith);
        x = omega arith;
        y = omega arith;
        sp = f.sp;
        pc =
            fpc;
        ccr = fits_opened r.ccr hnzvc flags f.ccr ff;
      };
      temps = (omega arith, omega arith);
      writes = tt;
    }))

wav_by : (flags : ℕ) (r : Regs) (t : Temps) → flags < 2 ^ 8 → FitsRegs r → FitsTemps t
    → Leaves FitsOutcome (wav_act flags r t)
wav_by flags r Free ff f ft = wav_leaves flags r 0 0 (plus r.pc 1) ff f (omega arith) (omega arith) (omega arith)
wav_by flags r OnStack ff f ft = wav_leaves flags r 0 0 (plus r.pc 1) ff f (omega arith) (omega arith) (omega arith)
wav_by flags r (Running p w) ff f ft = wav_leaves flags r p w r.pc ff f ft.0 ft.1 f.pc

pub wav_fits : PartFits wav
wav_fits flags s ff f =
    leaves_outcome FitsOutcome (wav_act flags s.regs s.temps) s.mem f.mem
    (wav_by flags s.regs s.temps ff f.regs f.temps)
