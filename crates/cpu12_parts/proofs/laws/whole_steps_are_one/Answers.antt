use Rattle.cpu12_parts.proofs.OneWay.{one_step}
use Rattle.cpu12_parts.proofs.laws.whole_steps_are_one.Goals as goal

pub returns : goal.returns
returns c = one_step
