use Rattle.build_commands.proofs.JudgedLemmas.{lcompile_judged}
use Rattle.build_commands.proofs.laws.lcompile_is_judged.Goals as goal

pub returns : goal.returns
returns c = lcompile_judged c.twos_are_judged.ensures c.lcompile_is_settled.ensures
