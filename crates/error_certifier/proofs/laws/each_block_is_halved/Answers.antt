use Rattle.error_certifier.proofs.JudgedHalving.{blocks_halved}
use Rattle.error_certifier.proofs.laws.each_block_is_halved.Goals as goal

pub returns : goal.returns
returns c =
    blocks_halved c.each_box_has_a_count.ensures c.each_box_is_within_or_above.ensures c.best_leaves_hold.ensures
    c.best_parts_are_small.ensures c.cuts_have_halves.ensures c.bounded_trees_are_accepted.ensures
