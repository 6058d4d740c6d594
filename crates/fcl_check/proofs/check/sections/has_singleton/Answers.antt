use Rattle.fcl_check.proofs.Words.{◌∙◌, any_from_yields_List, DefuzzyLine, is_some, rules, singleton_of, tests}
use Rattle.fcl_check.proofs.Words.{YieldsList-from_slice}
use Rattle.fcl_check.proofs.Places.{any_found}
use Rattle.fcl_check.proofs.check.sections.has_singleton.Goals as goal

pub returns : goal.returns
returns c =
    let lines = c.args.section.now.lines in
    any_from_yields_List (λ (l : DefuzzyLine). is_some (singleton_of l)) _ _ _ c.any.ensures.ran
    (YieldsList-from_slice lines cc) (λ x b q k. search (rules, tests)) ∙ any_found singleton_of lines
