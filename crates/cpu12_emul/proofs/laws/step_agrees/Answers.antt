use Rattle.cpu12_emul.proofs.Stepping.{step_agrees}
use Rattle.cpu12_emul.proofs.laws.step_agrees.Goals as goal

pub returns : goal.returns
returns c = step_agrees c.writes_agree.ensures
