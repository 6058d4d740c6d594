use Rattle.std.proofs.Common.{◌≡◌, ◌+◌, ◌-◌, ◌<◌, ap, ap₂, ◌∙◌, arith}
use Rattle.std.specs.Prelude.{slice_index, pos}
use Rattle.fz_num.specs.declared.dec.Dec.{Dec}
use Rattle.error_bound.proofs.TightLawLemmas.{sum_back}
use Rattle.error_bound.proofs.tight.sum_of.Goals as goal

pub loop-k-preserved : goal.loop-k-preserved
loop-k-preserved c =
    let us = c.args.output.now.singletons in
    let values = c.args.values.now in
    let k = c.loop-k.k in
    let none : Dec = record { 0 = pos 0 } in
    let some = c.loop-k-test.true in
    let upto = c.loop-k.auto.k in
    let count = c.len-k.ensures in
    let few = c.requires.output.few_terms in
    let before = c.loop-k.invariant in
    let b0 = before.0 in
    let in_table : k - 1 < 15 = omega arith in
    let small = c.requires.small.each (k - 1) in_table in
    let here : k - 1 ≡ k - 1 + 1 - 1 = omega arith in (
      omega (arith, small),
      ap₂ (λ x y. x + y) (ap (slice_index values) here) before.1
          ∙ sum_back (λ t u. slice_index values (t - 1)) us k none (omega arith) (omega arith),
    )
