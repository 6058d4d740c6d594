use Rattle.cell_bounds.proofs.ClaimLemmas.{claims_one}
use Rattle.cell_bounds.proofs.laws.claim_bounds_are_one.Goals as goal

pub returns : goal.returns
returns c = claims_one c.bounds_are_determined.ensures c.tight_bounds_are_one.ensures
