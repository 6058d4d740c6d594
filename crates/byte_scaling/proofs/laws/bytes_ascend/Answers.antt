use Rattle.byte_scaling.proofs.CellLemmas.{byte_of-mono}
use Rattle.byte_scaling.proofs.laws.bytes_ascend.Goals as goal

pub returns : goal.returns
returns c = byte_of-mono
