use Rattle.std.proofs.Common.{◌≡◌, take, length}
use Rattle.srecord.specs.Runs.{bytes_only}
use Rattle.srecord.proofs.pieces.put_piece.Given as goal

abbrev pub invariant-loop-byte : goal.invariant-loop-byte
invariant-loop-byte l =
    record {
      count : length l.piece.items ≡ l.byte-index;
      so_far : l.piece.items ≡ bytes_only
          (take l.byte-index l.bytes);
    }
