use Rattle.std.proofs.Common.{refl, arith}
use Rattle.std.proofs.lemmas.List.{length-set}
use Rattle.std.specs.Prelude.{slice_index, pos}
use Rattle.cell_error.specs.declared.ranges.Deviation.{Deviation}
use Rattle.error_bound.specs.Tight.{deviations_at}
use Rattle.error_bound.proofs.RangeLemmas.{fill_next}
use Rattle.error_bound.proofs.tight.deviations_of.Goals as goal

pub loop-k-preserved : goal.loop-k-preserved
loop-k-preserved c =
    let few = c.requires.few_terms in
    let count = c.loop-k.invariant.count in
    let rises = slice_index c.args.rises.now in
    let falls = slice_index c.args.falls.now in
    record {
      count = omega (arith, length-set {A = Deviation}, count);
      done = fill_next (deviations_at rises falls) (λ k u. record { rise = rises k; fall = falls k })
          (λ k u us. refl) c.args.output.now.singletons c.loop-k.deviations c.loop-k.k (record { 0 = pos 0 }) _
          c.loop-k-test.true (omega (arith, c.loop-k.auto.k, c.len-k.ensures)) (omega arith) refl
          c.loop-k.invariant.done;
    }
