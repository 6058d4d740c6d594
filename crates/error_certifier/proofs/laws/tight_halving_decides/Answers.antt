use Rattle.error_certifier.proofs.SmallBlocks.{halving_decides}
use Rattle.error_certifier.proofs.laws.tight_halving_decides.Goals as goal

pub returns : goal.returns
returns c = halving_decides c.each_block_is_halved.ensures c.cuts_have_halves.ensures c.cells_are_out_of_reach.ensures
