use Rattle.cpu12_isa.proofs.Fitting.{decoded_fits}
use Rattle.cpu12_isa.proofs.laws.decoded_fits.Goals as goal

pub returns : goal.returns
returns c = decoded_fits
