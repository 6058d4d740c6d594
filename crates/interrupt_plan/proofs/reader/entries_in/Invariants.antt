use Rattle.std.proofs.Common.{◌≤◌, take}
use Rattle.std.specs.Prelude.{map}
use Rattle.csv.specs.Records.{fields_of}
use Rattle.interrupt_plan.specs.Rows.{AreInOrder, SpellAll}
use Rattle.interrupt_plan.proofs.reader.entries_in.Given as goal

abbrev pub invariant-loop-at : goal.invariant-loop-at
invariant-loop-at g l = record {
  few : l.at ≤ 10000;
  spelled : SpellAll (g.R.RowReader.spells l.reader) (map fields_of (take l.at l.rows)) l.entries.items;
  order : AreInOrder g.E.Entry.written g.E.Entry.not_after l.entries.items;
}
