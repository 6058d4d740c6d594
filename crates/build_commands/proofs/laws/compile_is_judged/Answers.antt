use Rattle.build_commands.proofs.JudgedLemmas.{compile_judged}
use Rattle.build_commands.proofs.laws.compile_is_judged.Goals as goal

pub returns : goal.returns
returns c = compile_judged c.firmwares_are_judged.ensures c.compile_is_settled.ensures
