use Rattle.box_tree.proofs.NodeLemmas.{no_cut, no_node}
use Rattle.box_tree.proofs.nodes.node_at.Goals as goal

pub returns-in_err-input-in-Some-clause-node : goal.returns-in_err-input-in-Some-clause-node
returns-in_err-input-in-Some-clause-node c =
    rw c.from_residual.ensures
    (no_cut c.args.kind c.args.text.now c.in-Some.numbers.items c.in-Some.behind.now c.args.width c.in-Some.ensures.2
    c.in-Some.ensures.1 (rw c.as_slice.ensures.value at c.in_err-input-in-Some.ensures))

pub returns-in_err-leaf-in-None-clause-node : goal.returns-in_err-leaf-in-None-clause-node
returns-in_err-leaf-in-None-clause-node c =
    rw c.from_residual-in_err-leaf-in-None.ensures
    (no_node c.args.kind c.args.text.now c.args.width c.in-None.ensures c.in_err-leaf-in-None.ensures)
