use Rattle.std.proofs.Common.{◌≡◌, ◌++◌, take}
use Rattle.box_tree.specs.Texts.{node_lines}
use Rattle.box_tree.proofs.writer.put_nodes.Given as goal

abbrev pub invariant-loop-node : goal.invariant-loop-node
invariant-loop-node l = l.text.items ≡ l.fn.text.items ++ node_lines (take l.node-index l.nodes)
