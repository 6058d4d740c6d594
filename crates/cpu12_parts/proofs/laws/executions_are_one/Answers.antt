use Rattle.cpu12_parts.proofs.OneWay.{executions_are_one}
use Rattle.cpu12_parts.proofs.laws.executions_are_one.Goals as goal

pub returns : goal.returns
returns c = executions_are_one
