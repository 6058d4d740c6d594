use Rattle.error_bound.proofs.TightLawLemmas.{tight_falls}
use Rattle.error_bound.proofs.laws.tight_bounds_fall_inside.Goals as goal

pub returns : goal.returns
returns c = tight_falls
