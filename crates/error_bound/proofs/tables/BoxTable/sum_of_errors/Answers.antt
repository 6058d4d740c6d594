use Rattle.std.proofs.Common.{◌≡◌, ◌+◌, ◌-◌, ◌<◌, drop, refl, sym, ap, ap₂, ◌∙◌, arith}
use Rattle.std.specs.Prelude.{pos}
use Rattle.fz_num.specs.declared.dec.Dec.{Dec}
use Rattle.error_bound.specs.{CellErrors.term_errors, Bounds.errors_from}
use Rattle.error_bound.proofs.ListLemmas.{drop_back}
use Rattle.error_bound.proofs.tables.BoxTable.sum_of_errors.Goals as goal

pub loop-k-preserved : goal.loop-k-preserved
loop-k-preserved c =
    let b = c.args.self.now.table.now.block.now in
    let us = c.args.output.now.singletons in
    let e = term_errors b c.args.self.now.bytes.0.items in
    let o = c.args.out in
    let k = c.loop-k.k in
    let none : Dec = record { 0 = pos 0 } in
    let some = c.loop-k-test.true in
    let upto = c.loop-k.auto.k in
    let count = c.len-k.ensures in
    let next : k - 1 + 1 + 1 ≡ k + 1 = omega arith in
    let here = drop_back us k _ none some (omega arith) refl in
    let before = c.loop-k.invariant in
    let few = before.0 in
    let terms = c.requires.output.few_terms in
    let in_table : k - 1 < 15 = omega arith in
    let small = c.errors_by_term-errors.ensures.small (k - 1) in_table in (
      omega (arith, small),
      ap₂ (λ x y. x + y) (c.errors_by_term-errors.ensures.value (k - 1) in_table)
          (before.1 ∙ ap (λ n. errors_from b e o n (drop k us)) (sym next))
          ∙ sym (ap (errors_from b e o (k - 1 + 1)) here),
    )
