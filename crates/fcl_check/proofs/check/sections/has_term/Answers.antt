use Rattle.fcl_check.proofs.Words.{◌∙◌, any_from_yields_List, FuzzyLine, is_some, rules, term_of, tests}
use Rattle.fcl_check.proofs.Words.{YieldsList-from_slice}
use Rattle.fcl_check.proofs.Places.{any_found}
use Rattle.fcl_check.proofs.check.sections.has_term.Goals as goal

pub returns : goal.returns
returns c =
    let lines = c.args.section.now.lines in
    any_from_yields_List (λ (l : FuzzyLine). is_some (term_of l)) _ _ _ c.any.ensures.ran
    (YieldsList-from_slice lines cc) (λ x b q k. search (rules, tests))
    ∙ any_found term_of lines
