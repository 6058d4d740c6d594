use Rattle.watched_code.proofs.Words.{◌∷◌, ◌≡◌, LdabImmediate, segments_code, take}
use Rattle.watched_code.proofs.check.sum_code.Given as goal

abbrev pub invariant-loop-segment : goal.invariant-loop-segment
invariant-loop-segment l = l.code.items ≡ LdabImmediate 0 ∷ segments_code (take l.segment-index l.segments)
