use Rattle.cpu12_emul.proofs.Stepping.{rev_is_step}
use Rattle.cpu12_emul.proofs.laws.rev_is_step.Goals as goal

pub returns : goal.returns
returns c = rev_is_step
