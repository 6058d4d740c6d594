use Rattle.std.proofs.Common.{List, ◌++◌, ◌∷◌, [], ap, sym, arith, ◌∙◌, ◌<◌, length, subst}
use Rattle.error_bound.specs.declared.boxes.Interval.{Interval}
use Rattle.cert_check.proofs.TreeLemmas.{whole_more}
use Rattle.cert_check.proofs.boxes.whole_box.Goals as goal

pub loop-input-preserved : goal.loop-input-preserved
loop-input-preserved c =
    let k = c.loop-input._input-index in
    let within = subst (λ is. k < length is) c.as_slice-input-items.ensures c.loop-input-test.true in
    record {
      count = omega (arith, c.push.ensures.len, c.loop-input.invariant.count);
      items = c.push.ensures.items ∙ ap (λ (xs : List Interval). xs ++ record { from = 0; to = 255 } ∷ [])
          c.loop-input.invariant.items ∙ sym (whole_more c.args.block.now k within);
    }
