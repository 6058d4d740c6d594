use Rattle.std.proofs.Common.{◌≡◌, ℕ, ◌<◌, ◌≤◌, ◌*◌, ◌+◌, ◌-◌, List, length, get_or, ap, ap₂, ◌∙◌, sym, subst, arith}
use Rattle.std.proofs.Common.{mul-le-mul_right}
use Rattle.std.specs.Prelude.{All}
use Rattle.cell_error.specs.declared.{cuts.Cut.Cut, ranges.MassRange.MassRange, ranges.Deviation.Deviation}
use Rattle.cell_error.specs.{Errors.total, Errors.sure_mass, Cuts.masses, Means.IsByteRange, Means.IsSmallPull}
use Rattle.cell_error.proofs.MeanLemmas.{pull_back, cut_small, cut_some, ordered, mass_by}
use Rattle.cell_error.proofs.means.pulls_of.Goals as goal

-- the singletons weighted by the masses of a cut, and one by their sum
module _ (w : ℕ) (cut : Cut) (ts : List MassRange) (g : ℕ) (w_to : w ≤ 2000010000) (ranges : All (IsByteRange w) ts)
    (few : length ts ≤ 15) (mass : g ≡ total (masses cut ts)) where
  mean_small : (s : ℕ) → s ≤ w * g → s ≤ 7650038250000
  mean_small s within =
      let m = mass_by w w g (omega arith) w_to (subst (λ n. n ≤ 3825) (sym mass) (cut_small w cut ts ranges few)) in
      omega arith

  here_small : (k n : ℕ) (t : MassRange) → 0 < k → k ≤ length ts → n ≡ (get_or ts (k - 1) t).at → n * g ≤ 7650038250000
  here_small k n t from to is =
      let l = (ranges (k - 1) t (omega arith)).at_to in
      mean_small (n * g) (subst (λ u. u * g ≤ w * g) (sym is) (mul-le-mul_right g l))

pub pull_of-up-requires-clause-here : goal.pull_of-up-requires-clause-here
pull_of-up-requires-clause-here c =
    here_small c.args.width c.args.cut c.args.terms.now c.sums-sum.result.1 c.requires.width c.requires.terms
    c.requires.count c.sums-sum.ensures.mass c.loop-k.k _ _ c.loop-k-test.true c.loop-k.auto.k c.from.ensures

pub pull_of-up-requires-clause-mean : goal.pull_of-up-requires-clause-mean
pull_of-up-requires-clause-mean c =
    mean_small c.args.width c.args.cut c.args.terms.now c.sums-sum.result.1 c.requires.width c.requires.terms
    c.requires.count c.sums-sum.ensures.mass c.sums-sum.result.0 c.sums-sum.ensures.within

pub pull_of-down-requires-clause-here : goal.pull_of-down-requires-clause-here
pull_of-down-requires-clause-here c =
    here_small c.args.width c.args.cut c.args.terms.now c.sums-sum.result.1 c.requires.width c.requires.terms
    c.requires.count c.sums-sum.ensures.mass c.loop-k.k _ _ c.loop-k-test.true c.loop-k.auto.k c.from.ensures

pub pull_of-down-requires-clause-mean : goal.pull_of-down-requires-clause-mean
pull_of-down-requires-clause-mean c =
    mean_small c.args.width c.args.cut c.args.terms.now c.sums-sum.result.1 c.requires.width c.requires.terms
    c.requires.count c.sums-sum.ensures.mass c.sums-sum.result.0 c.sums-sum.ensures.within

pub loop-k-preserved : goal.loop-k-preserved
loop-k-preserved c =
    let k = c.loop-k.k in
    let ts = c.args.terms.now in
    let ds = c.args.deviations.now in
    let a = c.sums-sum.result.0 in
    let g = c.sums-sum.result.1 in
    let t : MassRange = record { at = 0; low = 0; high = 0 } in
    let d : Deviation = record { rise = 0; fall = 0 } in
    let some = c.loop-k-test.true in
    let upto = c.loop-k.auto.k in
    let before = c.loop-k.invariant in
    let us = before.up_small in
    let ds_small = before.down_small in
    let x = (get_or ds (k - 1) d).rise in
    let y = (get_or ds (k - 1) d).fall in
    let here : c.from.result * g ≡ (get_or ts (k - 1) t).at * g = ap (λ n. n * g) c.from.ensures in
    let one = c.pull_of-up.ensures.pull ∙ ap (λ n. x * (n - a) + y * (a - n)) here in
    let two = c.pull_of-down.ensures.pull ∙ ap (λ n. y * (n - a) + x * (a - n)) here in
    record {
      up = ap₂ (λ m n. m + n) one before.up
          ∙ pull_back (λ d. d.rise) (λ d. d.fall) ts ds k g a t d (omega arith) (omega arith) c.requires.pairs;
      down = ap₂ (λ m n. m + n) two before.down
          ∙ pull_back (λ d. d.fall) (λ d. d.rise) ts ds k g a t d (omega arith) (omega arith) c.requires.pairs;
      up_small = (let s = c.pull_of-up.ensures.small in omega arith);
      down_small = (let s = c.pull_of-down.ensures.small in omega arith);
    }

small : (w g n : ℕ) (cut : Cut) (ts : List MassRange) → All (IsByteRange w) ts → length ts ≤ 15 → 1 ≤ sure_mass ts
    → g ≡ total (masses cut ts) → (k : ℕ) → n ≤ (length ts - k) * 22950114750000000000000
    → IsSmallPull (record { pull = n; mass = g })
small w g n cut ts ranges few some mass k below = record {
  pull_to = omega arith;
  mass_from = subst (λ n. 1 ≤ n) (sym mass) (cut_some cut ts (ordered w ts ranges) some);
  mass_to = subst (λ n. n ≤ 3825) (sym mass) (cut_small w cut ts ranges few);
}

pub returns-clause-up_small : goal.returns-clause-up_small
returns-clause-up_small c =
    small c.args.width c.sums-sum.result.1 c.loop-k.up c.args.cut c.args.terms.now c.requires.terms c.requires.count
    c.requires.some c.sums-sum.ensures.mass c.loop-k.k c.loop-k.invariant.up_small

pub returns-clause-down_small : goal.returns-clause-down_small
returns-clause-down_small c =
    small c.args.width c.sums-sum.result.1 c.loop-k.down c.args.cut c.args.terms.now c.requires.terms c.requires.count
    c.requires.some c.sums-sum.ensures.mass c.loop-k.k c.loop-k.invariant.down_small
