use Rattle.alone_code.proofs.runs.Uninterrupted.{answered_are_uninterrupted}
use Rattle.alone_code.proofs.laws.answered_are_uninterrupted.Goals as goal

pub returns : goal.returns
returns c = answered_are_uninterrupted
