use Rattle.rule_layout.proofs.{MassLemmas.rule_truth_law_lem, TruthLemmas.spreading_law_lem}
use Rattle.rule_layout.proofs.laws.spreading_law.Goals as goal

pub returns-clause-conditions : goal.returns-clause-conditions
returns-clause-conditions c = spreading_law_lem

pub returns-clause-rules : goal.returns-clause-rules
returns-clause-rules c = rule_truth_law_lem
