use Rattle.cell_bounds.proofs.ClaimLemmas.{claims_tight}
use Rattle.cell_bounds.proofs.laws.tight_claims_are_least.Goals as goal

pub returns : goal.returns
returns c = claims_tight c.tight_bounds_are_least.ensures
