use Rattle.cpu12_parts.proofs.Inside.{revw_goes_on, revw_sums}
use Rattle.cpu12_parts.proofs.laws.revw_stays.Goals as goal

pub returns : goal.returns
returns c = record { goes_on = revw_goes_on; sums = revw_sums }
