use Rattle.std.proofs.Common.{◌≡◌, drop}
use Rattle.std.specs.Prelude.{Some}
use Rattle.csv.specs.Records.{fields_of}
use Rattle.interrupt_plan.specs.Rows.{writes_of}
use Rattle.interrupt_plan.proofs.PairLemmas.{first_pairs}
use Rattle.interrupt_plan.proofs.row.writes_in.Given as goal

abbrev pub invariant-loop-i : goal.invariant-loop-i
invariant-loop-i l = writes_of (first_pairs l.i (drop 2 (fields_of l.row))) ≡ Some l.writes.items
