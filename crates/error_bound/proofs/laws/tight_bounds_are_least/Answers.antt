use Rattle.error_bound.proofs.TightLawLemmas.{tight_least}
use Rattle.error_bound.proofs.laws.tight_bounds_are_least.Goals as goal

pub returns : goal.returns
returns c = tight_least c.means_have_errors.ensures
