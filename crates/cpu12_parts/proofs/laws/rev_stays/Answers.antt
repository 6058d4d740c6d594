use Rattle.cpu12_parts.proofs.Inside.{rev_goes_on, rev_sums}
use Rattle.cpu12_parts.proofs.laws.rev_stays.Goals as goal

pub returns : goal.returns
returns c = record { goes_on = rev_goes_on; sums = rev_sums }
