use Rattle.std.proofs.Common.{◌≤◌, ◌+◌, ◌-◌, take, length}
use Rattle.srecord.specs.Runs.{IsRun, address_at}
use Rattle.srecord.proofs.pieces.piece_len.Given as goal

abbrev pub invariant-loop-len : goal.invariant-loop-len
invariant-loop-len l =
    record {
      some : 1 ≤ l.len;
      few : l.len ≤ 32;
      within : l.len ≤ length l.bytes;
      fits : address_at l.bytes 0 + l.len
          ≤ 65536;
      run : IsRun (address_at l.bytes 0) (take l.len l.bytes);
    }

abbrev pub decreases-loop-len : goal.decreases-loop-len
decreases-loop-len l = 32 - l.len
