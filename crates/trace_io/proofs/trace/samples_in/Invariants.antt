use Rattle.std.proofs.Common.{◌≤◌, take}
use Rattle.std.specs.Prelude.{map}
use Rattle.csv.specs.Records.{fields_of}
use Rattle.trace_io.specs.Traces.{SpellSamples}
use Rattle.trace_io.proofs.trace.samples_in.Given as goal

abbrev pub invariant-loop-at : goal.invariant-loop-at
invariant-loop-at l = record {
  few : l.at ≤ 10000;
  spelled : SpellSamples l.inputs (map fields_of (take l.at l.rows)) l.samples.items;
}
