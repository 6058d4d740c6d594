use Rattle.rule_layout.proofs.Words.{◌<◌, ◌∙◌, All, ap, arith, at_address, Conjunction, get_or, IsBelow, List, map}
use Rattle.rule_layout.proofs.Words.{marked, rules, subst, sym, take_all}
use Rattle.std.specs.{Prelude.length}
use Rattle.rule_layout.proofs.ListLemmas.{IsBelow-weaker, at_base_zero, marked_below}
use Rattle.rule_layout.proofs.flat.Flat.bytes.Goals as goal

pub marked-requires-clause-numbers : goal.marked-requires-clause-numbers
marked-requires-clause-numbers c =
    subst (λ (w : List Conjunction). All (IsBelow 300) w) (sym c.as_slice.ensures)
    (IsBelow-weaker (length c.args.self.now.slots) 300 c.args.self.now.conjunctions c.requires.laid_out.few_slots
    c.requires.laid_out.in_range)

pub overflow_cast-element : goal.overflow_cast-element
overflow_cast-element c =
    let cs = c.args.self.now.conjunctions in
    let few = c.requires.laid_out.few_for_rev c.requires.instruction in
    let whole = c.deref-element-items.ensures.value
    ∙ (c.in_ok-list.ensures
    ∙ (ap (λ (w : List Conjunction). marked 0xFE 0xFF (map (at_address 0) w)) c.as_slice.ensures
    ∙ ap (marked 0xFE 0xFF) (at_base_zero cs))) in
    let bytes = subst (All (λ k. k < 256)) (sym whole)
    (marked_below 0xFE 0xFF (length c.args.self.now.slots) 256 cs c.requires.laid_out.in_range (omega arith)
    (omega arith) (omega arith)) in
    let here : get_or c.deref-element-items.result.now c.loop-element.element-index 0 < 256 =
    bytes c.loop-element.element-index 0 c.loop-element-test.true in
    search rules

pub returns : goal.returns
returns c =
    let cs = c.args.self.now.conjunctions in
    let whole = c.deref-element-items.ensures.value
    ∙ (c.in_ok-list.ensures
    ∙ (ap (λ (w : List Conjunction). marked 0xFE 0xFF (map (at_address 0) w)) c.as_slice.ensures
    ∙ ap (marked 0xFE 0xFF) (at_base_zero cs))) in
    c.loop-element.invariant
    ∙ (take_all c.loop-element.element-index c.deref-element-items.result.now c.loop-element-test.false ∙ whole)
