use Rattle.command_parts.proofs.JudgedLemmas.{twos_judged}
use Rattle.command_parts.proofs.laws.twos_are_judged.Goals as goal

pub returns : goal.returns
returns c = twos_judged c.blocks_are_judged.ensures c.given_blocks_have_twos.ensures
