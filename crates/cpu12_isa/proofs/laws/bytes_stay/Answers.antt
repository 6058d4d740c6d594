use Rattle.cpu12_isa.proofs.Fitting.{bytes_stay}
use Rattle.cpu12_isa.proofs.laws.bytes_stay.Goals as goal

pub returns : goal.returns
returns c = bytes_stay
