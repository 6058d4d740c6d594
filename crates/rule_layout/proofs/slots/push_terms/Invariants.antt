use Rattle.rule_layout.proofs.Words.{◌++◌, ◌≡◌, map, range_with_len}
use Rattle.rule_layout.proofs.slots.push_terms.Given as goal

abbrev pub invariant-loop-term : goal.invariant-loop-term
invariant-loop-term l = l.terms.items ≡ l.initial.terms.items ++ map (λ t. (l.variable, t)) (range_with_len 1 l.term)
