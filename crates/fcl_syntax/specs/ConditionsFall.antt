-- Each part of a condition is smaller than the whole, which serves the prover alone.
-- Beside the promise.
use Rattle.std.specs.Prelude.{ℕ, ◌+◌, ◌≤◌, max, List, [], ◌∷◌}
use Rattle.std.proofs.Common.{arith, Vec, Global}
use denote.Param.Weighed.{most}
use Rattle.fcl_syntax.specs.declared.tree.Node.{Node}
use Rattle.fcl_syntax.specs.declared.tree.Node.TheVariants as node
use Rattle.fcl_syntax.specs.declared.tree.And.TheShapes.{weighed-And-more, weighed-And-more-at-2, weighed-Or-more}
use Rattle.fcl_syntax.specs.declared.tree.And.TheShapes.{weighed-Or-more-at-2}
use Rattle.fcl_syntax.specs.{declared.tree.And.TheDeep.deep-Node, Grammar.TNot, Grammar.TAnd}
use Rattle.fcl_syntax.specs.Conditions.{not_of, nots_of, ands_of, not_size, nots_size, and_size, ands_size}

-- the parts behind the first, one by one and as the vector that holds them
most-nots : (ts : List (ℕ × TNot))
    → most (weighed-And-more-at-2.weight TNot (λ t. not_size t + 1)) ts ≤ nots_size (nots_of ts) + 1
most-nots [] = omega arith
most-nots (t ∷ ts) = omega (arith, most-nots ts)

pub weight-nots : (v : Vec (ℕ × TNot) Global)
    → weighed-And-more.weight TNot (λ t. not_size t + 1) v ≤ nots_size (nots_of v.items) + 1
weight-nots v = most-nots v.items

most-ands : (items : List (ℕ × TAnd))
    → most (weighed-Or-more-at-2.weight TAnd (λ a. and_size a + 1)) items ≤ ands_size (ands_of items) + 1
most-ands [] = omega arith
most-ands (a ∷ items) = omega (arith, most-ands items)

pub weight-ands : (v : Vec (ℕ × TAnd) Global)
    → weighed-Or-more.weight TAnd (λ a. and_size a + 1) v ≤ ands_size (ands_of v.items) + 1
weight-ands v = most-ands v.items

pub parts_are_smaller : (n : Node) → max (deep-Node n) 0 ≤ not_size (not_of n)
parts_are_smaller (node.Not at t) = omega arith
parts_are_smaller (node.Group at o) = omega arith
parts_are_smaller (node.Is o) = omega arith
