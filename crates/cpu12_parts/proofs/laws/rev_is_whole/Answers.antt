use Rattle.cpu12_parts.proofs.RevWalks.{rev_is_whole}
use Rattle.cpu12_parts.proofs.laws.rev_is_whole.Goals as goal

pub returns : goal.returns
returns c = rev_is_whole
