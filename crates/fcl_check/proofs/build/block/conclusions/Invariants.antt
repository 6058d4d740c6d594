use Rattle.fcl_check.proofs.Words.{◌∷◌, ◌≡◌, conclusion_of, map, take}
use Rattle.fcl_check.proofs.build.block.conclusions.Given as goal

abbrev pub invariant-loop-more : goal.invariant-loop-more
invariant-loop-more l =
    l.places.items ≡ map (conclusion_of l.source.names.now.tree.now.text.items l.source.names.now.tree.now.block)
    (l.rule.first ∷ take l.more-index l.rule.more)
