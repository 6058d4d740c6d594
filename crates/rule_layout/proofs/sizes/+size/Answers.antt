use Rattle.rule_layout.proofs.Words.{arith, inl, inr, part_falls, parts_fall, rules, Some}
use Rattle.fuzzy_meaning.proofs.{Algebra.take_nodes}
use Rattle.rule_layout.proofs.CondLemmas.{part_fits, part_nodes_le, parts_asked}
use Rattle.rule_layout.proofs.SpreadLemmas.{entries_le, parts_entries_le}
use Rattle.rule_layout.proofs.SizeLemmas.{small_from, size_more, size_over_by_part, size_over_by_join}
use Rattle.rule_layout.proofs.sizes.+size.Goals as goal

pub size_of-size_of_parts-requires : goal.size_of-size_of_parts-requires
size_of-size_of_parts-requires t c =
    let sort = inl c.in-And.is in (
      search (rules, parts_fall c.condition.view_is sort c.deref-in-And.ensures.value),
      parts_asked c.condition.view_is sort c.deref-in-And.ensures.value c.requires.fits c.requires.few,
    )

pub size_of-size_of_parts-requires-in-Or : goal.size_of-size_of_parts-requires-in-Or
size_of-size_of_parts-requires-in-Or t c =
    let sort = inr c.in-Or.is in (
      search (rules, parts_fall c.condition.view_is sort c.deref-in-Or.ensures.value),
      parts_asked c.condition.view_is sort c.deref-in-Or.ensures.value c.requires.fits c.requires.few,
    )

pub size_of_parts-size_of-requires : goal.size_of_parts-size_of-requires
size_of_parts-size_of-requires t c =
    let p = c.part-item.result in
    let fewer = part_nodes_le _ _ p c.loop-part-test.true c.part-item.is in (
      search (rules, part_falls _ _ p c.loop-part-test.true c.part-item.is),
      (part_fits _ _ p c.loop-part-test.true c.part-item.is c.requires.fits, omega (arith, fewer, c.requires.few)),
    )

pub size_of_parts-returns-in_err-size : goal.size_of_parts-returns-in_err-size
size_of_parts-returns-in_err-size t c =
    rw c.from_residual.ensures (size_over_by_part _ _ c.part-item.result c.loop-part-test.true c.part-item.is
    c.args.odd c.args.any c.requires.fits c.in_err-size.ensures)

pub size_of_parts-joined-requires-clause-self_small : goal.size_of_parts-joined-requires-clause-self_small
size_of_parts-joined-requires-clause-self_small t c =
    let fewer = take_nodes c.args.parts.now c.loop-part.part-index in
    small_from _ _ _ _ (parts_entries_le c.args.odd c.args.any _) (omega (arith, fewer, c.requires.few))
    c.loop-part.invariant

pub size_of_parts-joined-requires-clause-other_small : goal.size_of_parts-joined-requires-clause-other_small
size_of_parts-joined-requires-clause-other_small t c =
    let fewer = part_nodes_le _ _ c.part-item.result c.loop-part-test.true c.part-item.is in
    small_from _ _ _ _ (entries_le c.args.odd c.part-item.result) (omega (arith, fewer, c.requires.few))
    c.in_ok-size.ensures

pub size_of_parts-returns-in_err-total : goal.size_of_parts-returns-in_err-total
size_of_parts-returns-in_err-total t c =
    rw c.from_residual-in_err-total.ensures
    (size_over_by_join _ _ c.part-item.result c.loop-part-test.true c.part-item.is c.args.odd c.args.any
    c.loop-part.total c.in_ok-size.size c.loop-part.invariant c.in_ok-size.ensures c.requires.fits
    c.in_err-total.ensures)

pub size_of_parts-loop-part-preserved : goal.size_of_parts-loop-part-preserved
size_of_parts-loop-part-preserved t c =
    size_more _ _ c.part-item.result c.loop-part-test.true c.part-item.is c.args.odd c.args.any
    c.loop-part.total c.in_ok-size.size c.loop-part.invariant c.in_ok-size.ensures (Some c.in_ok-total.total)
    c.in_ok-total.ensures
