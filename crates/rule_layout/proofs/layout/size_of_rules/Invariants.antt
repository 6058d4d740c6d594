use Rattle.rule_layout.proofs.Words.{◌≡◌, IsSizeOfRules, Ok, take}
use Rattle.rule_layout.proofs.layout.size_of_rules.Given as goal

abbrev pub invariant-loop-rule : goal.invariant-loop-rule
invariant-loop-rule l = (l.number ≡ l.rule-index) × IsSizeOfRules (take l.rule-index l.rules) (Ok l.total)
