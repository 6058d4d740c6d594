use Rattle.box_tree.proofs.JudgedLemmas.{each_text_judged}
use Rattle.box_tree.proofs.laws.each_text_is_judged.Goals as goal

pub returns : goal.returns
returns c = each_text_judged
