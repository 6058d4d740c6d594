use Rattle.fcl_check.proofs.Words.{rules}
use Rattle.fcl_check.proofs.ConditionParts.{and_kind, first_falls, first_known, or_kind, part_falls, part_known}
use Rattle.fcl_check.proofs.ConditionParts.{whole_of_all}
use Rattle.fcl_check.proofs.build.conditions.+condition.Goals as goal

pub and-returns : goal.and-returns
and-returns t c =
    let same = c.deref-conjunct-items.ensures.value in
    whole_of_all and_kind c.and.inside.more.items c.and.view_is _ c.and.inside.more.ok.0 c.is_empty.ensures
    c.loop-conjunct.parts.items _ c.if-is_empty.false same c.loop-conjunct-test.false (rw same at c.loop-conjunct.invariant) c.all.ensures

pub and-not-requires : goal.and-not-requires
and-not-requires t c =
    (search (rules, first_falls and_kind _ c.and.view_is), first_known and_kind _ c.and.view_is _ c.requires)

pub and-not-requires-in-loop-conjunct : goal.and-not-requires-in-loop-conjunct
and-not-requires-in-loop-conjunct t c =
    let same = c.deref-conjunct-items.ensures.value in (
      search (rules, part_falls and_kind _ c.and.view_is same c.loop-conjunct-test.true c.loop-conjunct-item.is),
      part_known and_kind _ c.and.view_is _ c.requires same c.loop-conjunct-test.true c.loop-conjunct-item.is,
    )

pub or-returns : goal.or-returns
or-returns t c =
    let same = c.deref-alternative-items.ensures.value in
    whole_of_all or_kind c.or.inside.more.items c.or.view_is _ c.or.inside.more.ok.0 c.is_empty.ensures
    c.loop-alternative.parts.items _ c.if-is_empty.false same c.loop-alternative-test.false (rw same at c.loop-alternative.invariant) c.any.ensures

pub or-and-requires : goal.or-and-requires
or-and-requires t c =
    (search (rules, first_falls or_kind _ c.or.view_is), first_known or_kind _ c.or.view_is _ c.requires)

pub or-and-requires-in-loop-alternative : goal.or-and-requires-in-loop-alternative
or-and-requires-in-loop-alternative t c =
    let same = c.deref-alternative-items.ensures.value in (
      search (rules, part_falls or_kind _ c.or.view_is same c.loop-alternative-test.true c.loop-alternative-item.is),
      part_known or_kind _ c.or.view_is _ c.requires same c.loop-alternative-test.true c.loop-alternative-item.is,
    )
