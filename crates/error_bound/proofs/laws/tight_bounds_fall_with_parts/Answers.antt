use Rattle.error_bound.proofs.TightLawLemmas.{tight_parts}
use Rattle.error_bound.proofs.laws.tight_bounds_fall_with_parts.Goals as goal

pub returns : goal.returns
returns c = tight_parts c.means_have_errors.ensures
