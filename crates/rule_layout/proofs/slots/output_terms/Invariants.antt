use Rattle.rule_layout.proofs.Words.{◌≡◌, map, singleton_count, take, terms_from}
use Rattle.rule_layout.proofs.slots.output_terms.Given as goal

abbrev pub invariant-loop-output : goal.invariant-loop-output
invariant-loop-output l =
    (l.variable ≡ l.output-index) × (l.terms.items ≡ terms_from 1 (map singleton_count (take l.output-index l.outputs)))
