use Rattle.std.proofs.Common.{◌≡◌, length, take}
use Rattle.byte_scaling.specs.Cells.{bytes_of}
use Rattle.trace_io.specs.Traces.{AreWithin}
use Rattle.trace_io.proofs.trace.bytes_in.Given as goal

abbrev pub invariant-loop-i : goal.invariant-loop-i
invariant-loop-i l = record {
  within : AreWithin (take l.i l.inputs) (take l.i l.values);
  bytes : l.bytes.items ≡ bytes_of (take l.i l.inputs) (take l.i l.values);
  size : length l.bytes.items ≡ l.i;
}
