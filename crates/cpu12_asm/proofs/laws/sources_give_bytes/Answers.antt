use Rattle.cpu12_asm.proofs.SourceBytes.{given_bytes}
use Rattle.cpu12_asm.proofs.laws.sources_give_bytes.Goals as goal

pub returns : goal.returns
returns c = given_bytes
