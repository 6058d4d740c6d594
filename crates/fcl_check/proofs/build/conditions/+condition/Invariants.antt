use Rattle.fcl_check.proofs.Words.{◌∷◌, ◌≡◌, and_condition, literal_of, map, not_condition, take}
use Rattle.fcl_check.proofs.ConditionParts.{and_kind, or_kind}
use Rattle.fcl_check.proofs.build.conditions.+condition.Given as goal

abbrev pub invariant-and-loop-conjunct : goal.invariant-and-loop-conjunct
invariant-and-loop-conjunct l =
    let f = literal_of l.source.names.now.tree.now.text.items l.source.names.now.tree.now.block in
    l.parts.items ≡ not_condition f (and_kind.first l.and)
    ∷ map (λ t. not_condition f t.1) (take l.conjunct-index l.conjunct-items)

abbrev pub invariant-or-loop-alternative : goal.invariant-or-loop-alternative
invariant-or-loop-alternative l =
    let f = literal_of l.source.names.now.tree.now.text.items l.source.names.now.tree.now.block in
    l.parts.items ≡ and_condition f (or_kind.first l.or)
    ∷ map (λ a. and_condition f a.1) (take l.alternative-index l.alternative-items)
