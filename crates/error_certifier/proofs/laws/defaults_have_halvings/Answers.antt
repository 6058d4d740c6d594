use Rattle.error_certifier.proofs.SmallBlocks.{default_halvings}
use Rattle.error_certifier.proofs.laws.defaults_have_halvings.Goals as goal

pub returns : goal.returns
returns c = default_halvings c.each_block_is_halved.ensures c.cuts_have_halves.ensures c.defaults_have_cell_bounds.ensures
