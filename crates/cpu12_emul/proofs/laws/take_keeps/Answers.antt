use Rattle.cpu12_emul.proofs.Taking.{take_keeps}
use Rattle.cpu12_emul.proofs.laws.take_keeps.Goals as goal

pub returns : goal.returns
returns c = take_keeps c.push_laws.ensures
