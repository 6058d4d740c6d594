use Rattle.watched_code.proofs.Words.{◌*◌, ◌≡◌, ◌≤◌, code_length, take}
use Rattle.watched_code.proofs.check.code_length.Given as goal

abbrev pub invariant-loop-instruction : goal.invariant-loop-instruction
invariant-loop-instruction l =
    (l.bytes ≡ code_length (take l.instruction-index l.code)) × (l.bytes ≤ 6 * l.instruction-index)
