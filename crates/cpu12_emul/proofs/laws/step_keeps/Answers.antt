use Rattle.cpu12_emul.proofs.Stepping.{step_keeps}
use Rattle.cpu12_emul.proofs.laws.step_keeps.Goals as goal

pub returns : goal.returns
returns c = step_keeps c.step_agrees.ensures c.wavr_goes_on.ensures
