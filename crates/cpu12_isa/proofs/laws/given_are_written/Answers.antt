use Rattle.cpu12_isa.proofs.WrittenPages.{given_are_written}
use Rattle.cpu12_isa.proofs.laws.given_are_written.Goals as goal

pub returns : goal.returns
returns c = given_are_written
