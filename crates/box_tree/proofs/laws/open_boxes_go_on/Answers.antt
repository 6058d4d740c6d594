use Rattle.box_tree.proofs.TreeLemmas.{open_from-append}
use Rattle.box_tree.proofs.laws.open_boxes_go_on.Goals as goal

pub returns : goal.returns
returns c = open_from-append
