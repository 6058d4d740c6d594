use Rattle.build_commands.proofs.SettledLemmas.{certify_settled}
use Rattle.build_commands.proofs.laws.certify_is_settled.Goals as goal

pub returns : goal.returns
returns c = certify_settled c.blocks_are_exact.ensures c.halvings_are_exact.ensures
    c.halvings_are_within_their_targets.ensures
