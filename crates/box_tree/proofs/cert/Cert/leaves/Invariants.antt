use Rattle.std.proofs.Common.{◌≡◌, drop}
use Rattle.box_tree.specs.Trees.{leaf_count}
use Rattle.box_tree.proofs.cert.Cert.leaves.Given as goal

abbrev pub invariant-loop-k : goal.invariant-loop-k
invariant-loop-k l = l.leaves ≡ leaf_count (drop l.k l.nodes)
