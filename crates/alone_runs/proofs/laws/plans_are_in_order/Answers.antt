use Rattle.alone_runs.proofs.Requests.{plans_are_in_order}
use Rattle.alone_runs.proofs.laws.plans_are_in_order.Goals as goal

pub returns : goal.returns
returns c = plans_are_in_order
