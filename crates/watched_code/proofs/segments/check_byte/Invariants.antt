use Rattle.watched_code.proofs.Words.{◌%◌, ◌^◌, ◌≡◌, segment_bytes, sum, take}
use Rattle.watched_code.proofs.segments.check_byte.Given as goal

abbrev pub invariant-loop-segment : goal.invariant-loop-segment
invariant-loop-segment l = l.total ≡ sum (segment_bytes (take l.segment-index l.segments)) % 2 ^ 8
