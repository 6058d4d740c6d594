use Rattle.std.proofs.Common.{inl, inr, sym, ap, ◌∙◌, subst, rules}
use Rattle.fuzzy_meaning.specs.Conditions.{is, any, conditions}
use Rattle.fuzzy_meaning.specs.{Blocks.IsValidCondition, Trees.tree}
use Rattle.error_bound.specs.Reaches.{IsDeviationOfCondition}
use Rattle.error_bound.proofs.ConditionErrors.{valid_under, deviation_of_any}
use Rattle.error_bound.proofs.ListLemmas.{part_asks, part_is_valid, parts_ask}
use Rattle.error_bound.proofs.literal_errors.+errors.Goals as goal

pub deviation_among-reach_of_literal-reach-requires-clause-term :
    goal.deviation_among-reach_of_literal-reach-requires-clause-term
deviation_among-reach_of_literal-reach-requires-clause-term t c =
    let l = c.in-Some.literal in
    let valid = part_is_valid c.parts_are_valid.ensures _ _ c.index-parts-k.is c.requires.parts (search rules) in
    valid_under _ l.negated (is l.input l.term) (subst (IsValidCondition _) c.in-Some.ensures valid)

pub deviation_among-deviation_of-here-requires : goal.deviation_among-deviation_of-here-requires
deviation_among-deviation_of-here-requires t c =
    part_asks c.parts_are_valid.ensures _ _ c.index-parts-k.is c.requires.parts c.requires.table (search rules)

pub deviation_of-deviation_among-requires : goal.deviation_of-deviation_among-requires
deviation_of-deviation_among-requires t c =
    parts_ask _ c.condition.view_is (inl c.in-And.is) (search rules)

pub deviation_of-deviation_among-requires-in-Or : goal.deviation_of-deviation_among-requires-in-Or
deviation_of-deviation_among-requires-in-Or t c =
    parts_ask _ c.condition.view_is (inr c.in-Or.is) (search rules)

pub deviation_of-returns-in-Or : goal.deviation_of-returns-in-Or
deviation_of-returns-in-Or t c =
    let b = c.args.table.now.table.now.block.now in
    let box = c.args.table.now.bytes.0.items in
    let d = c.deviation_among-in-Or.result in
    subst (λ x. IsDeviationOfCondition b box x d) (ap tree (sym c.in-Or.is) ∙ c.condition.view_is)
    (subst (λ ps. IsDeviationOfCondition b box (any (conditions ps)) d) c.as_slice-in-Or.ensures.value
    (deviation_of_any b box _ d c.deviation_among-in-Or.ensures))
