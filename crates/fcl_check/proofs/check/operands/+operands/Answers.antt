use Rattle.fcl_check.proofs.Words.{◌∙◌, append-nil, refl, says_at, sym}
use Rattle.fcl_check.proofs.ConditionParts.{and_kind, first_place, or_kind}
use Rattle.fcl_check.proofs.check.operands.+operands.Goals as goal

pub first_in_or-loop-alternative-init : goal.first_in_or-loop-alternative-init
first_in_or-loop-alternative-init g t c = λ places says.
    let none = sym (c.first_in_and.ensures places says) ∙ c.in_default.is in
    rw (c.deref-alternative-items.ensures.value, first_place or_kind _ c.or.view_is places, none) refl

pub first_in_and-loop-conjunct-init : goal.first_in_and-loop-conjunct-init
first_in_and-loop-conjunct-init g t c = λ places says.
    let none = sym (c.first_in_not.ensures places says) ∙ c.in_default.is in
    rw (c.deref-conjunct-items.ensures.value, first_place and_kind _ c.and.view_is places, none) refl

pub first_in_not-returns-in-Is : goal.first_in_not-returns-in-Is
first_in_not-returns-in-Is g t c = λ places says.
    rw (← c.not.view_is, c.in-Is.is, append-nil) (says _ _ (says_at g.F.Fn c.place.ensures refl))
