use Rattle.cpu12_isa.proofs.Encoding.{encoded_is_short, encoded_are_bytes}
use Rattle.cpu12_isa.proofs.laws.encoded_are_bytes.Goals as goal

pub returns : goal.returns
returns c = record { short = encoded_is_short; bytes = encoded_are_bytes }
