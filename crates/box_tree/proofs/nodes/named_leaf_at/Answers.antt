use Rattle.box_tree.proofs.NodeLemmas.{no_named_leaf, no_pairs}
use Rattle.box_tree.proofs.nodes.named_leaf_at.Goals as goal

pub returns-in_err-numbers : goal.returns-in_err-numbers
returns-in_err-numbers c =
    rw c.from_residual.ensures
    (no_named_leaf c.args.text.now c.args.width c.requires c.in_err-numbers.ensures)

pub returns-in_err-pairs : goal.returns-in_err-pairs
returns-in_err-pairs c =
    rw c.from_residual-in_err-pairs.ensures
    (no_pairs c.args.text.now c.in_ok-numbers.numbers.items c.in_ok-numbers.behind.now c.args.width
    c.in_ok-numbers.ensures.2 c.in_ok-numbers.ensures.1 (rw c.as_slice.ensures.value at c.in_err-pairs.ensures))
