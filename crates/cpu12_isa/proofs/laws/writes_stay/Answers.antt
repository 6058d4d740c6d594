use Rattle.cpu12_isa.proofs.Agreements.{writes_stay}
use Rattle.cpu12_isa.proofs.laws.writes_stay.Goals as goal

pub returns : goal.returns
returns c = writes_stay
