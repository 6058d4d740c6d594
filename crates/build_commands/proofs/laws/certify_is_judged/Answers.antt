use Rattle.build_commands.proofs.JudgedLemmas.{certify_judged}
use Rattle.build_commands.proofs.laws.certify_is_judged.Goals as goal

pub returns : goal.returns
returns c = certify_judged c.blocks_are_judged.ensures c.halvings_are_judged.ensures c.certify_is_settled.ensures
