use Rattle.command_parts.proofs.JudgedLemmas.{images_judged}
use Rattle.command_parts.proofs.laws.images_are_judged.Goals as goal

pub returns : goal.returns
returns c = images_judged c.each_text_is_judged.ensures
