use Rattle.std.proofs.Common.{◌≡◌, ◌-◌}
use Rattle.std.specs.Prelude.{slice_index}
use Rattle.error_bound.specs.Boxes.{least_from, greatest_from}
use Rattle.error_bound.proofs.cells.TermCells.over.Given as goal

abbrev pub invariant-loop-b : goal.invariant-loop-b
invariant-loop-b l = record {
  least : l.grades.least ≡ least_from (λ n. slice_index l.self.grades n) l.fn.bytes.from (l.b - l.fn.bytes.from);
  greatest : l.grades.greatest ≡ greatest_from (λ n. slice_index l.self.grades n) l.fn.bytes.from
      (l.b - l.fn.bytes.from);
  rise : l.grades.rise ≡ greatest_from (λ n. slice_index l.self.rises n) l.fn.bytes.from (l.b - l.fn.bytes.from);
  fall : l.grades.fall ≡ greatest_from (λ n. slice_index l.self.falls n) l.fn.bytes.from (l.b - l.fn.bytes.from);
}
