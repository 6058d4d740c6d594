use Rattle.rule_layout.proofs.Words.{◌≡◌, map, take, term_count, terms_from}
use Rattle.rule_layout.proofs.slots.input_terms.Given as goal

abbrev pub invariant-loop-input : goal.invariant-loop-input
invariant-loop-input l =
    (l.variable ≡ l.input-index) × (l.terms.items ≡ terms_from 1 (map term_count (take l.input-index l.inputs)))
