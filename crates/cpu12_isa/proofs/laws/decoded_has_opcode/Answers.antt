use Rattle.cpu12_isa.proofs.Opcodes.{decoded_has_opcode}
use Rattle.cpu12_isa.proofs.laws.decoded_has_opcode.Goals as goal

pub returns : goal.returns
returns c = decoded_has_opcode
