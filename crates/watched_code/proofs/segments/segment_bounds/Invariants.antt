use Rattle.watched_code.proofs.Words.{◌*◌, ◌≡◌, ◌≤◌, segment_bound, sum_by, take}
use Rattle.watched_code.proofs.segments.segment_bounds.Given as goal

abbrev pub invariant-loop-segment : goal.invariant-loop-segment
invariant-loop-segment l =
    (l.bound ≡ sum_by segment_bound (take l.segment-index l.segments)) × (l.bound ≤ 29953 * l.segment-index)
