use Rattle.cpu12_emul.proofs.Stepping.{plain_is_step}
use Rattle.cpu12_emul.proofs.laws.plain_is_step.Goals as goal

pub returns : goal.returns
returns c = plain_is_step
