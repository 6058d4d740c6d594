use Rattle.cpu12_emul.proofs.Stepping.{wavr_goes_on}
use Rattle.cpu12_emul.proofs.laws.wavr_goes_on.Goals as goal

pub returns : goal.returns
returns c = wavr_goes_on
