use Rattle.build_commands.proofs.SettledLemmas.{check_settled}
use Rattle.build_commands.proofs.laws.check_is_settled.Goals as goal

pub returns : goal.returns
returns c = check_settled c.blocks_are_exact.ensures c.certs_are_exact.ensures
