use Rattle.std.proofs.Common.{arith, ◌≤◌, ◌-◌, ℕ, zero, suc, List, [], ◌∷◌, drop, length}
use Rattle.box_tree.specs.Trees.{leaf_count}
use Rattle.box_tree.specs.declared.{cert.Node.Node, cert.Node.TheVariants.Split, cert.Node.TheVariants.Leaf}
use Rattle.box_tree.proofs.cert.Cert.leaves.Goals as goal

leaf_count-drop : (k : ℕ) (nodes : List Node) → leaf_count (drop k nodes) ≤ length nodes - k
leaf_count-drop zero [] = omega arith
leaf_count-drop zero (Split input cut ∷ nodes) = omega (arith, leaf_count-drop zero nodes)
leaf_count-drop zero (Leaf stated ∷ nodes) = omega (arith, leaf_count-drop zero nodes)
leaf_count-drop (suc k) [] = omega arith
leaf_count-drop (suc k) (node ∷ nodes) = omega (arith, leaf_count-drop k nodes)

pub overflow_add-leaves : goal.overflow_add-leaves
overflow_add-leaves c =
    omega (
      arith,
      c.loop-k.auto.k,
      c.loop-k-test.true,
      c.loop-k.invariant,
      leaf_count-drop c.loop-k.k c.as_slice-nodes.result.now,
    )
