use Rattle.build_commands.proofs.JudgedLemmas.{exec_judged}
use Rattle.build_commands.proofs.laws.exec_is_judged.Goals as goal

pub returns : goal.returns
returns c = exec_judged c.each_text_is_judged.ensures
