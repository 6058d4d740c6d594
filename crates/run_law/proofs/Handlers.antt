-- A handler that does listed writes is quiet.
use Rattle.std.proofs.Common.{◌≡◌, ℕ, ◌+◌, ◌^◌, ◌<◌, ◌≤◌, Bool, length, sym, ◌∙◌, subst, arith}
use Rattle.cpu12_isa.specs.declared.instr.Regs.{Regs}
use Rattle.cpu12_isa.specs.{Fits.FitsRegs, Memory.plus, Regions.stack_start, Regions.stack_end}
use Rattle.cpu12_parts.specs.{declared.temps.Temps.Temps, State.State, Laws.IsOff}
use Rattle.cpu12_parts.specs.declared.temps.Temps.TheVariants.{Free, Running, OnStack}
use Rattle.cpu12_emul.specs.Take.{framed}
use Rattle.cpu12_emul.specs.Simulation.{Marks, OnStackOnly, OnStackOrNone, HasRoom, TakesQuietly}
use Rattle.run_law.specs.Soundness.{SumsFitBelow, Begins, AreLeft, WritesAreQuiet}

-- registers below sums that are pushed
pub sums_fit_below : SumsFitBelow
sums_fit_below r Free f l h = record { fits = f; low = omega arith; high = omega arith }
sums_fit_below r OnStack f l h = record { fits = f; low = omega arith; high = omega arith }
sums_fit_below r (Running p w) f l h = record {
  fits = at (plus r.sp 65530) (omega arith);
  low = omega arith;
  high = omega arith;
}
  where
    at : (k : ℕ) → k < 2 ^ 16 → FitsRegs (record r { sp = k })
    at k fits = record { a = f.a; b = f.b; x = f.x; y = f.y; sp = fits; pc = f.pc; ccr = f.ccr }

-- the state in which a handler begins has room for the nine bytes
record Begun (v : State) : Type 0 where
  size : length v.mem ≡ 65536
  fits : FitsRegs v.regs
  low : stack_start + 9 ≤ v.regs.sp
  high : v.regs.sp ≤ stack_end

begun : (open_to : ℕ → Bool) (v s : State) → HasRoom s → Begins open_to v s → Begun v
begun open_to v s k b =
    let r = sums_fit_below s.regs s.temps k.fits k.low k.high in
    record {
      size = b.mem.size ∙ k.size;
      fits = subst (λ (r : Regs). FitsRegs r) (sym b.regs) r.fits;
      low = subst (λ (r : Regs). stack_start + 9 ≤ r.sp) (sym b.regs) (omega (arith, r.low, k.low));
      high = subst (λ (r : Regs). r.sp ≤ stack_end) (sym b.regs) (omega (arith, r.high, k.high));
    }

-- sums that stay as they were are left
left_same : (marks : Marks) (t u v : Temps) → IsOff v → u ≡ v → AreLeft marks t u v
left_same OnStackOnly t u v off e = e
left_same OnStackOrNone (Running p w) u v off e = subst (λ (x : Temps). IsOff x) (sym e) off
left_same OnStackOrNone Free u v off e = e
left_same OnStackOrNone OnStack u v off e = e

pub writes_are_quiet : TakesQuietly → WritesAreQuiet
writes_are_quiet quietly marks open_to ws v s apart to_open k b =
    let g = begun open_to v s k b in
    let u = quietly open_to ws v apart to_open g.size g.fits g.low g.high in
    record { regs = u.regs; temps = left_same marks s.temps (framed ws v).temps v.temps b.temps u.temps; mem = u.mem }
