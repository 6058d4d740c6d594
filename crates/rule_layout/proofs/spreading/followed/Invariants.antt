use Rattle.rule_layout.proofs.Words.{◌++◌, ◌≡◌, map}
use Rattle.rule_layout.proofs.spreading.followed.Given as goal

abbrev pub invariant-loop-head : goal.invariant-loop-head
invariant-loop-head l = l.all.items ≡ map (λ head. head ++ l.tail) l.yielded
