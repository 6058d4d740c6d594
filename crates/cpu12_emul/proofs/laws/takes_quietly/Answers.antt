use Rattle.cpu12_emul.proofs.Taking.{takes_quietly}
use Rattle.cpu12_emul.proofs.laws.takes_quietly.Goals as goal

pub returns : goal.returns
returns c = takes_quietly c.push_laws.ensures
