use Rattle.srecord.proofs.JudgedLemmas.{judged}
use Rattle.srecord.proofs.laws.each_text_is_judged.Goals as goal

pub returns : goal.returns
returns c = judged
