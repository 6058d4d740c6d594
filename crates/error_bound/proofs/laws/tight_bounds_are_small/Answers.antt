use Rattle.error_bound.proofs.TightLawLemmas.{small_bound}
use Rattle.error_bound.proofs.laws.tight_bounds_are_small.Goals as goal

pub returns : goal.returns
returns c = small_bound
