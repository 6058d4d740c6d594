use Rattle.rule_layout.proofs.FaultLemmas.{no_fault_within}
use Rattle.rule_layout.proofs.laws.limits_have_no_fault.Goals as goal

pub returns : goal.returns
returns c = no_fault_within
