use Rattle.std.proofs.Common.{◌≤◌, ◌+◌, length}
use Rattle.srecord.specs.Reading.{HasRead}
use Rattle.srecord.proofs.reader.read.Given as goal

abbrev pub invariant-loop-rest : goal.invariant-loop-rest
invariant-loop-rest l = record {
  short : l.count + length l.rest ≤ length l.text;
  few : l.reader.records ≤ l.count;
  has_read : HasRead l.text l.count l.rest l.reader;
}

abbrev pub decreases-loop-rest : goal.decreases-loop-rest
decreases-loop-rest l = length l.rest
