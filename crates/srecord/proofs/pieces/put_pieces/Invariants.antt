use Rattle.std.proofs.Common.{◌≡◌, ◌≤◌, ◌+◌, ◌++◌, List, length}
use Rattle.srecord.specs.Images.{AreCut, Piece, data_text}
use Rattle.srecord.proofs.pieces.put_pieces.Given as goal

abbrev pub invariant-loop-rest : goal.invariant-loop-rest
invariant-loop-rest l = record {
  counted : l.count + length l.rest ≤ length l.bytes;
  more : (pieces : List Piece) → AreCut l.rest pieces
      → (all : List Piece) × AreCut l.bytes all × (l.fn.text.items ++ data_text all ≡ l.text.items ++ data_text pieces)
      × (length all ≡ l.count + length pieces);
}

abbrev pub decreases-loop-rest : goal.decreases-loop-rest
decreases-loop-rest l = length l.rest
