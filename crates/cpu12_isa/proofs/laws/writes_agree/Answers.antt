use Rattle.cpu12_isa.proofs.Agreements.{writes_agree}
use Rattle.cpu12_isa.proofs.laws.writes_agree.Goals as goal

pub returns : goal.returns
returns c = writes_agree
