use Rattle.rule_layout.proofs.Words.{◌∙◌, inl, inr, part_falls, parts_fall, rules}
use Rattle.rule_layout.proofs.{CondLemmas.part_fits, CondLemmas.parts_fit, TableLemmas.numbers_more}
use Rattle.rule_layout.proofs.spreading.+spread.Goals as goal

pub conjunctions-conjunctions_of_parts-requires : goal.conjunctions-conjunctions_of_parts-requires
conjunctions-conjunctions_of_parts-requires t c =
    let sort = inl c.in-And.is in (
      search (rules, parts_fall c.condition.view_is sort c.deref-in-And.ensures.value),
      parts_fit c.condition.view_is sort c.deref-in-And.ensures.value c.requires,
    )

pub conjunctions-conjunctions_of_parts-requires-in-Or : goal.conjunctions-conjunctions_of_parts-requires-in-Or
conjunctions-conjunctions_of_parts-requires-in-Or t c =
    let sort = inr c.in-Or.is in (
      search (rules, parts_fall c.condition.view_is sort c.deref-in-Or.ensures.value),
      parts_fit c.condition.view_is sort c.deref-in-Or.ensures.value c.requires,
    )

pub conjunctions_of_parts-conjunctions-requires : goal.conjunctions_of_parts-conjunctions-requires
conjunctions_of_parts-conjunctions-requires t c =
    let p = c.part-item.result in (
      search (rules, part_falls _ _ p c.loop-part-test.true c.part-item.is),
      part_fits _ _ p c.loop-part-test.true c.part-item.is c.requires,
    )

pub conjunctions_of_parts-loop-part-preserved : goal.conjunctions_of_parts-loop-part-preserved
conjunctions_of_parts-loop-part-preserved t c =
    c.in_ok-all-2.ensures
    ∙ numbers_more _ _ c.part-item.result c.loop-part-test.true c.part-item.is c.args.odd c.args.any
    c.args.numbers.now.table _ _ c.loop-part.invariant c.in_ok-more.ensures
