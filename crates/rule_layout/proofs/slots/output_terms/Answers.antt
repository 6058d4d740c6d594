use Rattle.rule_layout.proofs.Words.{◌++◌, ◌+◌, ◌∙◌, ap, arith, map, range_with_len, singleton_count, ℕ}
use Rattle.rule_layout.proofs.SlotLemmas.{terms_from_more}
use Rattle.rule_layout.proofs.slots.output_terms.Goals as goal

pub loop-output-preserved : goal.loop-output-preserved
loop-output-preserved c =
    let counted = ap (λ (n : ℕ). c.loop-output.terms.items ++ map (λ t. (c.loop-output.variable + 1, t))
    (range_with_len 1 n)) c.len.ensures in (
      omega (arith, c.loop-output.invariant.0),
      c.in_ok-push_terms.ensures
          ∙ (counted ∙ terms_from_more singleton_count c.args.outputs.now c.loop-output.output-index
          c.loop-output.variable c.output-item.result c.loop-output.terms.items c.loop-output-test.true c.output-item.is
          c.loop-output.invariant.0 c.loop-output.invariant.1),
    )
