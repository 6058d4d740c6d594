use Rattle.error_bound.proofs.TightLawLemmas.{tight_one}
use Rattle.error_bound.proofs.laws.tight_bounds_are_one.Goals as goal

pub returns : goal.returns
returns c = tight_one
