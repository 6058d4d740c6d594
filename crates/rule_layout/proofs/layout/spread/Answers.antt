use Rattle.rule_layout.proofs.Words.{◌∙◌, ◌≤◌, All, ap, flat_map, IsInTable, IsNumbering}
use Rattle.rule_layout.proofs.Words.{IsSpreadable, length, List, Rule, Slot, subst, sym, table_conjunctions}
use Rattle.rule_layout.proofs.LayoutLemmas.{slots_in_table, few_slots, rules_spreadable}
use Rattle.rule_layout.proofs.LayoutLemmas.{flat_made, conjunctions_by_table, weights_made}
use Rattle.rule_layout.proofs.LaidOutLemmas.{laid_out_made}
use Rattle.rule_layout.proofs.layout.spread.Goals as goal

pub new-numbers-requires-clause-known : goal.new-numbers-requires-clause-known
new-numbers-requires-clause-known c =
    subst (All IsInTable) (sym (c.deref.ensures.value ∙ c.in_ok-slots.ensures.slots))
    (slots_in_table c.args.block.now c.requires)

pub new-numbers-requires-clause-few : goal.new-numbers-requires-clause-few
new-numbers-requires-clause-few c =
    subst (λ (w : List Slot). length w ≤ 300) (sym (c.deref.ensures.value ∙ c.in_ok-slots.ensures.slots))
    (few_slots c.args.block.now c.requires)

pub spread_rules-requires-clause-spreadable : goal.spread_rules-requires-clause-spreadable
spread_rules-requires-clause-spreadable c =
    subst (All IsSpreadable) (sym c.as_slice.ensures) (rules_spreadable c.args.block.now c.requires)

pub invariant_of-result : goal.invariant_of-result
invariant_of-result c =
    let b = c.args.block.now in
    let numbering = subst (λ (w : List Slot). IsNumbering w c.new-numbers.result.table)
    (c.deref.ensures.value ∙ c.in_ok-slots.ensures.slots) c.new-numbers.ensures in
    let slots = c.new.ensures ∙ c.in_ok-slots.ensures.slots in
    let conjunctions = c.new-2.ensures ∙ c.in_ok-conjunctions.ensures.conjunctions
    ∙ ap (λ (w : List Rule). flat_map (table_conjunctions c.new-numbers.result.table) w) c.as_slice.ensures
    ∙ conjunctions_by_table b c.new-numbers.result.table numbering c.requires in
    let weights = c.new-3.ensures ∙ c.in_ok-conjunctions.ensures.weights ∙ weights_made b _ c.as_slice.ensures in
    let instruction = c.in_ok-slots.ensures.instruction in
    record {
      valid = c.requires;
      limits = c.in_ok-slots.ensures.limits;
      flat_is = flat_made b _ slots conjunctions weights instruction;
      laid_out = laid_out_made b _ c.requires (flat_made b _ slots conjunctions weights instruction);
    }
