use Rattle.cpu12_parts.proofs.PartFits.{rev_fits}
use Rattle.cpu12_parts.proofs.laws.rev_fits.Goals as goal

pub returns : goal.returns
returns c = rev_fits
