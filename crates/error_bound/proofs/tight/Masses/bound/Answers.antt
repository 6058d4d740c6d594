use Rattle.std.proofs.Common.{◌≤◌, ◌∙◌, take, sym, subst, arith}
use Rattle.std.specs.Prelude.{All, slice_index}
use Rattle.fz_num.specs.Decimals.{distance}
use Rattle.cell_error.specs.{Means.IsByteRange, Means.IsSmallDeviation, Errors.sure_mass}
use Rattle.error_bound.specs.Tight.{ranges_at}
use Rattle.error_bound.proofs.{TightLawLemmas.ranges_fit, TightLawLemmas.deviations_fit, TightLemmas.lows_are}
use Rattle.error_bound.proofs.tight.Masses.bound.Goals as goal

pub mean_error-requires-clause-terms : goal.mean_error-requires-clause-terms
mean_error-requires-clause-terms c =
    let m = c.args.self.now in
    let x = c.args.output.now in
    let v = c.requires.output in
    let few = v.few_terms in
    let ok : All (IsByteRange (distance x.lo x.hi))
    (ranges_at (slice_index m.byte_lows) (slice_index m.byte_highs) x.lo 0 x.singletons) =
    ranges_fit (slice_index m.byte_lows) (slice_index m.byte_highs) x.lo x.hi v.range c.requires.ordered
    c.requires.byte_highs.each 0 x.singletons (omega arith) v.singletons in
    subst (λ n. All (IsByteRange c.above.result) (take n c.ranges_of-ranges.result)) (sym c.len-count.ensures)
    (subst (All (IsByteRange c.above.result)) (sym c.ranges_of-ranges.ensures)
    (subst (λ w. All (IsByteRange w) (ranges_at (slice_index m.byte_lows) (slice_index m.byte_highs) x.lo 0 x.singletons))
    (sym c.above.ensures) ok))

pub mean_error-requires-clause-deviations : goal.mean_error-requires-clause-deviations
mean_error-requires-clause-deviations c =
    let d = c.args.deviations.now in
    let x = c.args.output.now in
    let few = c.requires.output.few_terms in
    subst (λ n. All IsSmallDeviation (take n c.deviations_of-deviations.result)) (sym c.len-count.ensures)
    (subst (All IsSmallDeviation) (sym c.deviations_of-deviations.ensures)
    (deviations_fit (slice_index d.rises) (slice_index d.falls) c.requires.rises.each c.requires.falls.each 0 x.singletons
    (omega arith)))

pub mean_error-requires-clause-some : goal.mean_error-requires-clause-some
mean_error-requires-clause-some c =
    let m = c.args.self.now in
    let x = c.args.output.now in
    let some = c.if-bytes-eq0.false in
    let lows = lows_are (slice_index m.byte_lows) (slice_index m.byte_highs) x.lo 0 x.singletons in
    let sum = c.sum_of-bytes.ensures.value in
    subst (λ n. 1 ≤ sure_mass (take n c.ranges_of-ranges.result)) (sym c.len-count.ensures)
    (subst (λ l. 1 ≤ sure_mass l) (sym c.ranges_of-ranges.ensures)
    (subst (λ n. 1 ≤ n) (sum ∙ sym lows) (omega arith)))
