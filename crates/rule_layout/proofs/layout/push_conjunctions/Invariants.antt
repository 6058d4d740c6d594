use Rattle.rule_layout.proofs.Words.{◌++◌, ◌≡◌, map, with_conclusions}
use Rattle.rule_layout.proofs.layout.push_conjunctions.Given as goal

abbrev pub invariant-loop-literals : goal.invariant-loop-literals
invariant-loop-literals l = l.all.items ≡ l.initial.all.items ++ map (with_conclusions l.conclusions) l.yielded
