use Rattle.rule_layout.proofs.Words.{◌++◌, ◌+◌, ◌≡◌, map, take}
use Rattle.rule_layout.proofs.lists.push_from.Given as goal

abbrev pub invariant-loop-number : goal.invariant-loop-number
invariant-loop-number l = l.list.items ≡ l.initial.list.items ++ map (λ n. l.base + n) (take l.number-index l.numbers)
