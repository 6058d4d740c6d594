use Rattle.command_parts.proofs.JudgedLemmas.{blocks_judged}
use Rattle.command_parts.proofs.laws.blocks_are_judged.Goals as goal

pub returns : goal.returns
returns c = blocks_judged c.each_text_is_judged.ensures
