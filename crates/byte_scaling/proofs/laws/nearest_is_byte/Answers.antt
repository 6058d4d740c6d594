use Rattle.byte_scaling.proofs.CellLemmas.{nearest_byte-le}
use Rattle.byte_scaling.proofs.laws.nearest_is_byte.Goals as goal

pub returns : goal.returns
returns c = nearest_byte-le
