use Rattle.std.proofs.Common.{◌≡◌, ◌<◌, ◌+◌, ℕ, None}
use Rattle.cpu12_asm.specs.Bytes.{byte_at}
use Rattle.srecord.specs.Texts.{with_first}
use Rattle.srecord.proofs.reader.put_bytes.Given as goal

abbrev pub invariant-loop-i : goal.invariant-loop-i
invariant-loop-i l = record {
  put : (q : ℕ) → byte_at l.bytes q ≡ with_first l.i (byte_at l.fn.bytes) l.address l.payload q;
  free : (k : ℕ) → k < l.i → byte_at l.fn.bytes (l.address + k) ≡ None;
}
