use Rattle.command_parts.proofs.ReadingLemmas.{twos_exact}
use Rattle.command_parts.proofs.laws.twos_are_exact.Goals as goal

pub returns : goal.returns
returns c = twos_exact c.blocks_are_exact.ensures c.twos_are_one.ensures
