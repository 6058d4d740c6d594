use Rattle.std.proofs.Common.{◌-◌, length, refl, ap, arith}
use Rattle.std.proofs.lemmas.List.{length-set}
use Rattle.std.specs.Prelude.{ℕ, slice_index, pos}
use Rattle.cell_error.specs.declared.ranges.MassRange.{MassRange}
use Rattle.fz_num.specs.{Decimals.distance}
use Rattle.error_bound.specs.Tight.{ranges_at}
use Rattle.error_bound.proofs.RangeLemmas.{fill_next}
use Rattle.error_bound.proofs.tight.ranges_of.Goals as goal

pub loop-k-preserved : goal.loop-k-preserved
loop-k-preserved c =
    let few = c.requires.few_terms in
    let same = ap length c.as_slice-singletons.ensures in
    let count = c.loop-k.invariant.count in
    let lows = slice_index c.args.lows.now in
    let highs = slice_index c.args.highs.now in
    let lo = c.args.output.now.lo in
    let one : ℕ → ℕ → MassRange = λ k a. record { at = a; low = lows k; high = highs k } in
    record {
      count = omega (arith, length-set {A = MassRange}, count);
      done = fill_next (ranges_at lows highs lo) (λ k u. one k (distance lo u)) (λ k u us. refl)
          c.as_slice-singletons.result.now c.loop-k.ranges c.loop-k.k (record { 0 = pos 0 }) _ c.loop-k-test.true
          c.loop-k.auto.k (omega arith) (ap (one (c.loop-k.k - 1)) c.above.ensures) c.loop-k.invariant.done;
    }
