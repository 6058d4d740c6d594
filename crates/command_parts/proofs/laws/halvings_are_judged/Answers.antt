use Rattle.command_parts.proofs.JudgedLemmas.{halvings_judged}
use Rattle.command_parts.proofs.laws.halvings_are_judged.Goals as goal

pub returns : goal.returns
returns c = halvings_judged c.each_block_is_halved.ensures c.cells_are_out_of_reach.ensures
