use Rattle.rule_layout.proofs.Words.{◌||◌, ◌≡◌, conditions, is_marked, IsInGrid, take, true, ℕ}
use Rattle.rule_layout.proofs.SlotLemmas.{some_has_complement}
use Rattle.rule_layout.proofs.slots.Complements.+add.Given as goal

abbrev pub invariant-loop-part : goal.invariant-loop-part
invariant-loop-part l =
    (i t : ℕ) → IsInGrid i t
    → is_marked l.self.table i t
    ≡ (is_marked l.initial.self.table i t || some_has_complement i t l.odd true
    (conditions (take l.part-index l.part-items)))
