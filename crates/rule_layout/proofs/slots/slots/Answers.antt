use Rattle.rule_layout.proofs.Words.{◌∙◌, All, ap, AreUsed, FitsGrid, IsInGrid, List, map, Rule, singleton_count}
use Rattle.rule_layout.proofs.Words.{subst, sym, term_count, terms_from, ℕ}
use Rattle.fuzzy_meaning.specs.{declared.block.Input.Input, declared.block.Output.Output}
use Rattle.rule_layout.proofs.BlockLemmas.{rule_fits, input_terms_in_grid, slots_made}
use Rattle.rule_layout.proofs.slots.slots.Goals as goal

pub new-used-requires : goal.new-used-requires
new-used-requires c =
    subst (λ (w : List Rule). All (λ r. FitsGrid r.cond) w) (sym c.as_slice-2.ensures)
    (λ k d lt. rule_fits c.args.block.now _ c.requires (c.requires.rules k d lt))

pub push_complement_slots-requires : goal.push_complement_slots-requires
push_complement_slots-requires c =
    let terms = c.deref-2.ensures.value
    ∙ (c.in_ok-terms.ensures ∙ ap (λ (w : List Input). terms_from 1 (map term_count w)) c.as_slice.ensures) in
    subst (λ (w : List (ℕ × ℕ)). All (λ p. IsInGrid p.0 p.1) w) (sym terms)
    (input_terms_in_grid c.args.block.now c.requires)

pub returns : goal.returns
returns c =
    let terms = c.in_ok-terms.ensures ∙ ap (λ (w : List Input). terms_from 1 (map term_count w)) c.as_slice.ensures in
    let outs = c.in_ok-output_terms.ensures
    ∙ ap (λ (w : List Output). terms_from 1 (map singleton_count w)) c.as_slice-3.ensures in
    slots_made c.args.block.now c.requires c.new-used.result.table c.deref.result.now c.deref-2.result.now
    c.deref-3.result.now c.new-slots.result.items c.push_term_slots.new.slots.items
    c.push_complement_slots.new.slots.items c.push_out_slots.new.slots.items
    (subst (λ (w : List Rule). AreUsed w c.new-used.result.table) c.as_slice-2.ensures c.new-used.ensures)
    (c.deref.ensures.value ∙ terms) (c.deref-2.ensures.value ∙ terms) (c.deref-3.ensures.value ∙ outs)
    c.new-slots.ensures.items c.in_ok-push_term_slots.ensures c.in_ok-push_complement_slots.ensures
    c.in_ok-push_out_slots.ensures
