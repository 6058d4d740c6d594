use Rattle.cpu12_emul.proofs.Stepping.{sums_are_step}
use Rattle.cpu12_emul.proofs.laws.sums_are_step.Goals as goal

pub returns : goal.returns
returns c = sums_are_step
