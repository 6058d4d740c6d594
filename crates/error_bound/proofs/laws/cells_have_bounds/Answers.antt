use Rattle.error_bound.proofs.Literals.{cells_bounded}
use Rattle.error_bound.proofs.laws.cells_have_bounds.Goals as goal

pub returns : goal.returns
returns c = cells_bounded
