use Rattle.rule_layout.proofs.Words.{◌++◌, ◌≡◌, map, take}
use Rattle.rule_layout.proofs.spreading.push_choices.Given as goal

abbrev pub invariant-loop-tail : goal.invariant-loop-tail
invariant-loop-tail l = l.all.items ≡ l.initial.all.items ++ map (λ tail. l.head ++ tail) (take l.tail-index l.tails)
