use Rattle.std.proofs.Common.{◌≡◌, take}
use Rattle.std.specs.Prelude.{Some}
use Rattle.csv.specs.Records.{fields_of}
use Rattle.trace_io.specs.Traces.{decimals}
use Rattle.trace_io.proofs.trace.decimals_of.Given as goal

abbrev pub invariant-loop-i : goal.invariant-loop-i
invariant-loop-i l = decimals (take l.i (fields_of l.row)) ≡ Some l.values.items
