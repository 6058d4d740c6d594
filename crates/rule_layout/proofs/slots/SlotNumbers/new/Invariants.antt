use Rattle.rule_layout.proofs.Words.{◌+◌, ◌<◌, ◌≡◌, drop, IsInTable, length, number_in, Slot, table_number}
use Rattle.rule_layout.proofs.slots.SlotNumbers.new.Given as goal

abbrev pub invariant-loop-number : goal.invariant-loop-number
invariant-loop-number l =
    (length l.table ≡ 300)
    × ((s : Slot) → IsInTable s → number_in (drop l.number l.slots) s < length (drop l.number l.slots)
    → table_number l.table s ≡ l.number + number_in (drop l.number l.slots) s)
