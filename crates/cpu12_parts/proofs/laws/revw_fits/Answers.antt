use Rattle.cpu12_parts.proofs.PartFits.{revw_fits}
use Rattle.cpu12_parts.proofs.laws.revw_fits.Goals as goal

pub returns : goal.returns
returns c = revw_fits
