use Rattle.std.proofs.Common.{◌≤◌, take}
use Rattle.std.specs.Prelude.{map}
use Rattle.csv.specs.Records.{fields_of}
use Rattle.interrupt_plan.specs.{Upsets.AreGoodUpsets, UpsetTexts.SpellUpsets}
use Rattle.interrupt_plan.proofs.upsets.upsets_in.Given as goal

abbrev pub invariant-loop-at : goal.invariant-loop-at
invariant-loop-at l = record {
  few : l.at ≤ 10000;
  spelled : SpellUpsets (map fields_of (take l.at l.rows)) l.upsets.items;
  good : AreGoodUpsets l.image.bytes l.upsets.items;
}
