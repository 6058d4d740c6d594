use Rattle.error_bound.proofs.FlatteningLemmas.{reaches_kept}
use Rattle.error_bound.proofs.laws.flattening_keeps_reaches.Goals as goal

pub returns : goal.returns
returns c = reaches_kept
