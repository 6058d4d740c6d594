use Rattle.cpu12_emul.proofs.Stepping.{revw_is_step}
use Rattle.cpu12_emul.proofs.laws.revw_is_step.Goals as goal

pub returns : goal.returns
returns c = revw_is_step
