use Rattle.error_certifier.proofs.HalveLemmas.{cells_out_of_reach}
use Rattle.error_certifier.proofs.laws.cells_are_out_of_reach.Goals as goal

pub returns : goal.returns
returns c = cells_out_of_reach c.leaves_are_around.ensures c.counts_are_least.ensures c.cuts_have_halves.ensures
