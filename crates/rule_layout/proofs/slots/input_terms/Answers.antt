use Rattle.rule_layout.proofs.Words.{◌++◌, ◌+◌, ◌∙◌, ap, arith, map, range_with_len, term_count, ℕ}
use Rattle.rule_layout.proofs.SlotLemmas.{terms_from_more}
use Rattle.rule_layout.proofs.slots.input_terms.Goals as goal

pub loop-input-preserved : goal.loop-input-preserved
loop-input-preserved c =
    let counted = ap (λ (n : ℕ). c.loop-input.terms.items ++ map (λ t. (c.loop-input.variable + 1, t))
    (range_with_len 1 n)) c.len.ensures in (
      omega (arith, c.loop-input.invariant.0),
      c.in_ok-push_terms.ensures
          ∙ (counted ∙ terms_from_more term_count c.args.inputs.now c.loop-input.input-index c.loop-input.variable
          c.input-item.result c.loop-input.terms.items c.loop-input-test.true c.input-item.is c.loop-input.invariant.0
          c.loop-input.invariant.1),
    )
