use Rattle.box_tree.proofs.NodeLemmas.{no_tight_leaf}
use Rattle.box_tree.proofs.nodes.tight_leaf_at.Goals as goal

pub returns-in_err-behind : goal.returns-in_err-behind
returns-in_err-behind c = λ width.
    rw c.from_residual.ensures
    (no_tight_leaf c.args.text.now width c.in_default.ensures c.in_err-behind.ensures)
