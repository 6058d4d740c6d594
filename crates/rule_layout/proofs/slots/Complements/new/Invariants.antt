use Rattle.rule_layout.proofs.Words.{◌≡◌, is_complemented, is_marked, IsInGrid, take, ℕ}
use Rattle.rule_layout.proofs.slots.Complements.new.Given as goal

abbrev pub invariant-loop-rule : goal.invariant-loop-rule
invariant-loop-rule l =
    (i t : ℕ) → IsInGrid i t → is_marked l.complements.table i t ≡ is_complemented (take l.rule-index l.rules) i t
