use Rattle.workload.proofs.OneLemmas.{one_workload}
use Rattle.workload.proofs.laws.workloads_are_one.Goals as goal

pub returns : goal.returns
returns c = one_workload
