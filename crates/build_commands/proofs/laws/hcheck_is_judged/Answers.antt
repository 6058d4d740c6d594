use Rattle.build_commands.proofs.JudgedLemmas.{hcheck_judged}
use Rattle.build_commands.proofs.laws.hcheck_is_judged.Goals as goal

pub returns : goal.returns
returns c = hcheck_judged c.handlers_are_judged.ensures c.hcheck_is_settled.ensures
