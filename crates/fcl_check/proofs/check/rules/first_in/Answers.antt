use Rattle.fcl_check.proofs.Words.{◌∙◌, refl, says_at, sym}
use Rattle.fcl_check.proofs.Places.{first-append-append}
use Rattle.fcl_check.proofs.check.rules.first_in.Goals as goal

pub returns-in-Some-conclusion : goal.returns-in-Some-conclusion
returns-in-Some-conclusion g c = λ in_pair in_conclusion of_pair of_conclusion.
    let none = sym (c.first_in_or.ensures in_pair of_pair) ∙ c.in_default.is in
    let here = sym (of_conclusion _ _ (says_at g.C.Fn c.conclusion.ensures refl)) ∙ c.in-Some-conclusion.is in
    rw (first-append-append _ (in_conclusion c.args.rule.now.first) _ none, here) refl

pub returns : goal.returns
returns g c = λ in_pair in_conclusion of_pair of_conclusion.
    let none = sym (c.first_in_or.ensures in_pair of_pair) ∙ c.in_default.is in
    let here = sym (of_conclusion _ _ (says_at g.C.Fn c.conclusion.ensures refl)) ∙ c.in_default-conclusion.is in
    rw (
      first-append-append _ (in_conclusion c.args.rule.now.first) _ none,
      here,
      ← c.as_slice.ensures,
    ) (c.first_at.ensures in_conclusion of_conclusion)
