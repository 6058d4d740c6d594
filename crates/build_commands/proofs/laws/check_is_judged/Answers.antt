use Rattle.build_commands.proofs.JudgedLemmas.{check_judged}
use Rattle.build_commands.proofs.laws.check_is_judged.Goals as goal

pub returns : goal.returns
returns c = check_judged c.blocks_are_judged.ensures c.certs_are_judged.ensures c.check_is_settled.ensures
