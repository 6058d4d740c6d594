use Rattle.std.proofs.Common.{◌≡◌, ◌≤◌, ◌*◌, take, sum}
use Rattle.srecord.proofs.records.checksum.Given as goal

abbrev pub invariant-loop-byte : goal.invariant-loop-byte
invariant-loop-byte l =
    record { total : l.total ≡ sum (take l.byte-index l.body); small : l.total ≤ 255 * l.byte-index }
