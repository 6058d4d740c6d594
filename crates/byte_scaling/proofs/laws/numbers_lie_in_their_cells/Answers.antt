use Rattle.byte_scaling.proofs.CellLemmas.{LiesInCell-byte_of}
use Rattle.byte_scaling.proofs.laws.numbers_lie_in_their_cells.Goals as goal

pub returns : goal.returns
returns c = LiesInCell-byte_of
