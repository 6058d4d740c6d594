use Rattle.fcl_check.proofs.Words.{◌++◌, ◌∷◌, ◌≡◌, map, take}
use Rattle.fcl_check.proofs.names.push_declaration.Given as goal

abbrev pub invariant-loop-name : goal.invariant-loop-name
invariant-loop-name l = l.into.items ≡ l.fn.into.items
    ++ map (λ n. (l.direction, n)) (l.declaration.first ∷ take l.name-index l.declaration.more)
