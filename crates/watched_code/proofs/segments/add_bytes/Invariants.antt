use Rattle.watched_code.proofs.Words.{◌%◌, ◌+◌, ◌^◌, ◌≡◌, sum, take}
use Rattle.watched_code.proofs.segments.add_bytes.Given as goal

abbrev pub invariant-loop-byte : goal.invariant-loop-byte
invariant-loop-byte l = l.total ≡ (l.start + sum (take l.byte-index l.bytes)) % 2 ^ 8
