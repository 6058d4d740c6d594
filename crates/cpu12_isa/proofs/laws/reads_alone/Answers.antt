use Rattle.cpu12_isa.proofs.Agreements.{reads_alone}
use Rattle.cpu12_isa.specs.Meaning.{Effect}
use Rattle.cpu12_isa.proofs.laws.reads_alone.Goals as goal

pub returns : goal.returns
returns c = reads_alone Effect
