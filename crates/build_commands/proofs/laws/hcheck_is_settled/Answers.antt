use Rattle.build_commands.proofs.SettledLemmas.{hcheck_settled}
use Rattle.build_commands.proofs.laws.hcheck_is_settled.Goals as goal

pub returns : goal.returns
returns c = hcheck_settled c.handlers_are_exact.ensures
