use Rattle.fcl_check.proofs.Words.{drop, FnReturnsAt}
use Rattle.fcl_check.proofs.ConditionParts.{HaveFirst, and_kind, or_kind}
use Rattle.fcl_check.proofs.check.operands.+operands.Given as goal

abbrev pub invariant-first_in_and-loop-conjunct : goal.invariant-first_in_and-loop-conjunct
invariant-first_in_and-loop-conjunct g l =
    HaveFirst and_kind (FnReturnsAt g.F.Fn l.place) (drop l.conjunct-index l.conjunct-items) l.and

abbrev pub invariant-first_in_or-loop-alternative : goal.invariant-first_in_or-loop-alternative
invariant-first_in_or-loop-alternative g l =
    HaveFirst or_kind (FnReturnsAt g.F.Fn l.place) (drop l.alternative-index l.alternative-items) l.or
