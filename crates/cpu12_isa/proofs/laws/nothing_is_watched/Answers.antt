use Rattle.cpu12_isa.proofs.Watches.{nothing_is_watched}
use Rattle.cpu12_isa.proofs.laws.nothing_is_watched.Goals as goal

pub returns : goal.returns
returns c = nothing_is_watched
