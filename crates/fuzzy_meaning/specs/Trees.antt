-- What a condition of the code is as a tree.
-- Reached by the promise.
use Rattle.std.specs.Prelude.{◌+◌, ◌≤◌, List, [], ◌∷◌}
use Rattle.std.proofs.Common.{arith}
use denote.Param.Weighed.{most}
use Rattle.fuzzy_meaning.specs.declared.condition.Node.{Node}
use Rattle.fuzzy_meaning.specs.declared.condition.Node.TheVariants.{Is, Not, And, Or}
use Rattle.fuzzy_meaning.specs.Conditions.{Condition, is, negation, all, any, conditions, nodes, total_nodes}

abbrev pub tree : Node → Condition
tree (Is i t) = is i t
tree (Not c) = negation c.value
tree (And v) = all (conditions v.items)
tree (Or v) = any (conditions v.items)

pub most-nodes : (cs : List Condition) → most (λ c. nodes c + 1) cs ≤ total_nodes (conditions cs) + 1
most-nodes [] = omega arith
most-nodes (c ∷ cs) = omega (arith, most-nodes cs)
