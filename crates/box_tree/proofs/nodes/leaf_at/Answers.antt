use Rattle.box_tree.proofs.nodes.leaf_at.Goals as goal

pub returns-in-Tight : goal.returns-in-Tight
returns-in-Tight c = rw c.in-Tight.is (c.tight_leaf_at.ensures c.args.width)
