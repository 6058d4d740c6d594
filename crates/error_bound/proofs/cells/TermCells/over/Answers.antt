use Rattle.std.proofs.Common.{◌≡◌, ℕ, ◌+◌, ◌-◌, ◌≤◌, min, max, ap, sym, ◌∙◌, arith}
use Rattle.std.specs.Prelude.{slice_index}
use Rattle.error_bound.proofs.CellErrors.{least_more, greatest_more}
use Rattle.error_bound.proofs.cells.TermCells.over.Goals as goal

pub loop-b-preserved : goal.loop-b-preserved
loop-b-preserved c =
    let self = c.args.self.now in
    let g = λ (n : ℕ). slice_index self.grades n in
    let r = λ (n : ℕ). slice_index self.rises n in
    let d = λ (n : ℕ). slice_index self.falls n in
    let p = c.args.bytes.from in
    let b = c.loop-b.b in
    let i = c.loop-b.invariant in
    let start = c.from-from.ensures in
    let from : p ≤ b = omega (arith, c.loop-b.auto.b, start) in
    let least : c.min.result ≡ min c.loop-b.grades.least (g (b + 1)) = omega arith in
    let greatest : c.max.result ≡ max c.loop-b.grades.greatest (g (b + 1)) = omega arith in
    let rise : c.max-in-loop-b.result ≡ max c.loop-b.grades.rise (r (b + 1)) = omega arith in
    let fall : c.max-in-loop-b-2.result ≡ max c.loop-b.grades.fall (d (b + 1)) = omega arith in
    record {
      least = least ∙ ap (λ m. min m (g (b + 1))) i.least ∙ sym (least_more g p b from);
      greatest = greatest ∙ ap (λ m. max m (g (b + 1))) i.greatest ∙ sym (greatest_more g p b from);
      rise = rise ∙ ap (λ m. max m (r (b + 1))) i.rise ∙ sym (greatest_more r p b from);
      fall = fall ∙ ap (λ m. max m (d (b + 1))) i.fall ∙ sym (greatest_more d p b from);
    }

pub returns : goal.returns
returns c =
    let start = c.from-from.ensures in
    let end = c.from-b-end.ensures in
    let last : c.loop-b.b ≡ c.args.bytes.to =
    omega (arith, c.loop-b-test.false, c.loop-b.auto.b-end, start, end, c.requires) in
    let i = c.loop-b.invariant in
    record {
      least = rw last at i.least;
      greatest = rw last at i.greatest;
      rise = rw last at i.rise;
      fall = rw last at i.fall;
    }
