use Rattle.command_parts.proofs.JudgedLemmas.{handlers_judged}
use Rattle.command_parts.proofs.laws.handlers_are_judged.Goals as goal

pub returns : goal.returns
returns c = handlers_judged c.each_text_is_judged.ensures c.each_image_is_judged.ensures
