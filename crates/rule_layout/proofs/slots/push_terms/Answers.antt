use Rattle.rule_layout.proofs.Words.{[], ◌++◌, ◌+◌, ◌∙◌, ◌∷◌, ap, arith, List, ℕ}
use Rattle.rule_layout.proofs.SlotLemmas.{terms_push}
use Rattle.rule_layout.proofs.slots.push_terms.Goals as goal

pub loop-term-preserved : goal.loop-term-preserved
loop-term-preserved c =
    c.in_ok-push.ensures.items
    ∙ (ap (λ (w : List (ℕ × ℕ)). w ++ (c.args.variable, c.loop-term.term + 1) ∷ []) c.loop-term.invariant
    ∙ terms_push c.args.variable c.loop-term.term (c.loop-term.term + 1) c.args.terms.now.items (omega arith))
