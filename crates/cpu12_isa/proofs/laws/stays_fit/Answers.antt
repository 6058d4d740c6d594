use Rattle.cpu12_isa.proofs.Fitting.{stays_fit}
use Rattle.cpu12_isa.proofs.laws.stays_fit.Goals as goal

pub returns : goal.returns
returns c = stays_fit
