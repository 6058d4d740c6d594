use Rattle.rule_layout.proofs.Words.{◌≡◌, choices, take}
use Rattle.rule_layout.proofs.spreading.extended.Given as goal

abbrev pub invariant-loop-head : goal.invariant-loop-head
invariant-loop-head l = l.all.items ≡ choices (take l.head-index l.head-items) l.tails
