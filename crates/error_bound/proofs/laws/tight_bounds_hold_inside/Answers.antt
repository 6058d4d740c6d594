use Rattle.error_bound.proofs.TightLawLemmas.{tight_inside}
use Rattle.error_bound.proofs.laws.tight_bounds_hold_inside.Goals as goal

pub returns : goal.returns
returns c = tight_inside c.means_have_errors.ensures
