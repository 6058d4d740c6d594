use Rattle.cell_bounds.proofs.ClaimLemmas.{claims_parts}
use Rattle.cell_bounds.proofs.laws.claim_bounds_fall_with_parts.Goals as goal

pub returns : goal.returns
returns c = claims_parts c.bounds_fall_with_parts.ensures c.tight_bounds_fall_with_parts.ensures
