use Rattle.std.proofs.Common.{◌≡◌, ◌+◌, take, length}
use Rattle.std.specs.Prelude.{◌/◌, ◌%◌, ◌∷◌}
use Rattle.srecord.proofs.records.body_of_record.Given as goal

abbrev pub invariant-loop-byte : goal.invariant-loop-byte
invariant-loop-byte l = record {
  count : length l.body.items ≡ l.byte-index + 3;
  so_far : l.body.items ≡ (length l.bytes + 3) ∷ l.address / 256 ∷ l.address % 256 ∷ take l.byte-index l.bytes;
}
