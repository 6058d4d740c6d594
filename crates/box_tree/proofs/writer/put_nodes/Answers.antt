use Rattle.box_tree.proofs.TreeLemmas.{node_lines_more}
use Rattle.box_tree.proofs.writer.put_nodes.Goals as goal

pub loop-node-preserved : goal.loop-node-preserved
loop-node-preserved c =
    node_lines_more c.args.nodes.now c.loop-node.node-index c.node-item.result c.loop-node.text.items
    c.put_node.new.text.items c.args.text.now.items c.loop-node-test.true c.node-item.is c.loop-node.invariant
    c.in_ok-put_node.ensures
