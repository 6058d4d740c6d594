use Rattle.std.proofs.Common.{◌≡◌, ◌≤◌, take, length}
use Rattle.std.specs.Prelude.{map, Some}
use Rattle.csv.specs.Records.{fields_of}
use Rattle.interrupt_plan.specs.Rows.{count_of}
use Rattle.interrupt_plan.proofs.levels.numbers_in.Given as goal

abbrev pub invariant-loop-at : goal.invariant-loop-at
invariant-loop-at l = record {
  count : length l.numbers.items ≡ l.at;
  few : l.at ≤ 11;
  so_far : map count_of (take l.at (fields_of l.row)) ≡ map Some l.numbers.items;
}
