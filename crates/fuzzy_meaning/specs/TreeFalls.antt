-- Each part of a condition has fewer conditions than the whole.
-- Beside the promise.
use Rattle.std.specs.Prelude.{◌≤◌, max}
use Rattle.std.proofs.Common.{arith}
use Rattle.fuzzy_meaning.specs.declared.{condition.Node.Node, condition.Condition.TheDeep.deep-Node}
use Rattle.fuzzy_meaning.specs.declared.condition.Node.TheVariants.{Is, Not, And, Or}
use Rattle.fuzzy_meaning.specs.{Conditions.nodes, Trees.tree, Trees.most-nodes}

pub parts_are_smaller : (n : Node) → max (deep-Node n) 0 ≤ nodes (tree n)
parts_are_smaller (Is i t) = omega arith
parts_are_smaller (Not c) = omega arith
parts_are_smaller (And v) = omega (arith, most-nodes v.items)
parts_are_smaller (Or v) = omega (arith, most-nodes v.items)
