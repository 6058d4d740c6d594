use Rattle.cert_check.proofs.JudgedTrees.{texts_judged}
use Rattle.cert_check.proofs.laws.each_cert_text_is_judged.Goals as goal

pub returns : goal.returns
returns c = texts_judged c.each_text_is_judged.ensures c.each_cert_is_judged.ensures
