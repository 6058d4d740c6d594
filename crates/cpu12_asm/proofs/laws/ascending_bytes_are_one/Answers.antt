use Rattle.cpu12_asm.proofs.Ascending.{one_list}
use Rattle.cpu12_asm.proofs.laws.ascending_bytes_are_one.Goals as goal

pub returns : goal.returns
returns c = one_list
