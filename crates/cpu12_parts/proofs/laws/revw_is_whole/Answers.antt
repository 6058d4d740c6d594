use Rattle.cpu12_parts.proofs.RevWalks.{revw_is_whole}
use Rattle.cpu12_parts.proofs.laws.revw_is_whole.Goals as goal

pub returns : goal.returns
returns c = revw_is_whole
