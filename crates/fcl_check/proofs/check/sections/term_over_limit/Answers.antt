use Rattle.fcl_check.proofs.Words.{◌∙◌, DefuzzyLine, FuzzyLine, option_map, rules, Singleton, singleton_of, sym, Term}
use Rattle.fcl_check.proofs.Words.{term_of, tests, YieldsList-from_slice}
use Rattle.std.proofs.{lemmas.Iterator.Adapters.option_map_id}
use Rattle.std.proofs.lemmas.{Iterator.Consumers.YieldsList-from_filter_map, Iterator.Consumers.nth_from_yields_List}
use Rattle.fcl_check.proofs.Places.{first-map-drop-filter_map}
use Rattle.fcl_check.proofs.check.sections.term_over_limit.Goals as goal

pub returns-in-Fuzzify : goal.returns-in-Fuzzify
returns-in-Fuzzify c =
    let lines = c.in-Fuzzify.section.lines in
    rw (c.in-Fuzzify.is, first-map-drop-filter_map (λ (t : Term). t.name.at) term_of 15 lines)
    (sym (option_map_id c.nth.result) ∙ nth_from_yields_List _ _ 15 c.nth.ensures.ran
    (YieldsList-from_filter_map _ (λ (l : FuzzyLine). option_map (λ (t : Term). t.name.at) (term_of l))
    (YieldsList-from_slice lines cc) c.filter_map.ensures.closure (λ x r q k. search (rules, tests))))

pub returns-in-Defuzzify : goal.returns-in-Defuzzify
returns-in-Defuzzify c =
    let lines = c.in-Defuzzify.section.lines in
    rw (c.in-Defuzzify.is, first-map-drop-filter_map (λ (t : Singleton). t.name.at) singleton_of 15 lines)
    (sym (option_map_id c.nth-in-Defuzzify.result) ∙ nth_from_yields_List _ _ 15 c.nth-in-Defuzzify.ensures.ran
    (YieldsList-from_filter_map _ (λ (l : DefuzzyLine). option_map (λ (t : Singleton). t.name.at) (singleton_of l))
    (YieldsList-from_slice lines cc) c.filter_map-in-Defuzzify.ensures.closure (λ x r q k. search (rules, tests))))
