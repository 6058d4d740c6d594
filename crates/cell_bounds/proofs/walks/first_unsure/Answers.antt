use Rattle.std.proofs.Common.{◌≡◌, ⊎_elim, [], ◌∷◌, ◌+◌, ◌<◌, ◌≤◌, subst, arith}
use Rattle.std.specs.Prelude.{IfSome}
use Rattle.std.proofs.lemmas.Bool.{cases_lt}
use Rattle.fuzzy_meaning.specs.Blocks.{output_at}
use Rattle.byte_scaling.specs.Widths.{parts}
use Rattle.cell_bounds.specs.{CellBounds.CellsAreWithin, CellBounds.IsFirstCellAbove, Walks.whole_ranges}
use Rattle.cell_bounds.proofs.WalkLemmas.{unsure_above, sure_next}
use Rattle.cell_bounds.proofs.walks.first_unsure.Goals as goal

pub returns-in-Err : goal.returns-in-Err
returns-in-Err c =
    let b = c.args.table.now.block.now in
    let box = c.args.bytes.now.0.items in
    let place = c.loop-place.place in
    let a = c.in-Err.above in
    let first = c.in-Err.ensures.above in
    let test = c.loop-place-test.true in
    let known = c.requires.known_to in
    let from = first.from in
    let to = first.to in
    let outputs = c.requires.table.valid.few_outputs in
    let here : IsFirstCellAbove b (parts c.args.table.now.width) whole_ranges (place + 1) (place + 1) box a.bytes.items a.out a.bound =
    subst (λ i. IsFirstCellAbove b (parts c.args.table.now.width) whole_ranges (place + 1) (place + 1) i a.bytes.items a.out a.bound)
    c.copied-in-loop-place.ensures first in
    record {
      from = omega arith;
      to = omega arith;
      unsure = unsure_above b (parts c.args.table.now.width) (place + 1) (place + 1) box a.bytes.items a.out a.bound (omega arith)
          (omega arith) here;
      before = λ j f l. c.loop-place.invariant.sure j f (omega arith);
    }

pub loop-place-preserved : goal.loop-place-preserved
loop-place-preserved c =
    let b = c.args.table.now.block.now in
    let box = c.args.bytes.now.0.items in
    let place = c.loop-place.place in
    let test = c.loop-place-test.true in
    let known = c.requires.known_to in
    let outputs = c.requires.table.valid.few_outputs in
    record {
      table = c.over.ensures.table;
      sure = λ j f l.
          ⊎_elim
          (λ (m : place < j).
          let e : place + 1 ≡ j = omega arith in
          let next : IfSome (output_at b (place + 1))
          (λ x. CellsAreWithin b c.copied-in-loop-place.result.0.items (place + 1) x (parts c.args.table.now.width) 1000000) =
          sure_next b (parts c.args.table.now.width) place c.copied-in-loop-place.result.0.items (0 ∷ 0 ∷ 0 ∷ 0 ∷ []) c.in-Ok.field-0
          (omega arith) c.in-Ok.ensures.raised
          c.in-Ok.ensures.within in
          subst (λ i. IfSome (output_at b i) (λ x. CellsAreWithin b box i x (parts c.args.table.now.width) 1000000)) e
          (subst (λ y. IfSome (output_at b (place + 1)) (λ x. CellsAreWithin b y (place + 1) x (parts c.args.table.now.width) 1000000))
          c.copied-in-loop-place.ensures next))
          (λ (m : j ≤ place). c.loop-place.invariant.sure j f m)
          (cases_lt place j);
    }
