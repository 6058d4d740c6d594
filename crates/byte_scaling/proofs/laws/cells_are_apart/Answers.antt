use Rattle.byte_scaling.proofs.CellLemmas.{cells_apart}
use Rattle.byte_scaling.proofs.laws.cells_are_apart.Goals as goal

pub returns : goal.returns
returns c = cells_apart
