use Rattle.rule_layout.proofs.Words.{◌<◌, ◌||◌, ◌∙◌, ap, arith, Bool, Condition, conditions, is_marked, List, nodes}
use Rattle.rule_layout.proofs.Words.{rules, sym, take_all, true}
use Rattle.rule_layout.proofs.CondLemmas.{part_fits, part_nodes_le, parts_fit, all_nodes_lt}
use Rattle.rule_layout.proofs.SlotLemmas.{some_has_complement, has_complement-parts, some_has_complement-take}
use Rattle.rule_layout.proofs.SlotLemmas.{marks_more}
use Rattle.rule_layout.proofs.slots.Complements.+add.Goals as goal

pub add-requires-in-loop-part : goal.add-requires-in-loop-part
add-requires-in-loop-part t c =
    let p = c.part-item.result in
    let same = c.deref-part-items.ensures.value in
    let fewer = part_nodes_le _ _ p c.loop-part-test.true c.part-item.is in
    let all = all_nodes_lt c.condition.view_is c.in-And.is same in
    let falls : nodes p < nodes c.args.condition.now = omega (arith, fewer, all) in (
      search (rules, falls),
      part_fits _ _ p c.loop-part-test.true c.part-item.is
          (parts_fit c.condition.view_is c.in-And.is same c.requires),
    )

pub loop-part-preserved : goal.loop-part-preserved
loop-part-preserved t c = λ i u h.
    marks_more _ _ _ _ _ (c.loop-part.invariant i u h) (c.add-in-loop-part.ensures.marks i u h)
    ∙ ap (λ (b : Bool). is_marked c.args.self.now.table i u || b)
    (sym (some_has_complement-take i u c.args.odd c.deref-part-items.result.now c.loop-part.part-index
    c.part-item.result c.loop-part-test.true c.part-item.is))

pub returns-after-loop-part : goal.returns-after-loop-part
returns-after-loop-part t c = record {
  marks = λ i u h.
      let whole = take_all c.loop-part.part-index c.deref-part-items.result.now c.loop-part-test.false
      ∙ c.deref-part-items.ensures.value in
      let parts = ap (λ (w : List Condition). some_has_complement i u c.args.odd true (conditions w)) whole
      ∙ sym (has_complement-parts c.condition.view_is c.in-And.is i u c.args.odd) in
      c.loop-part.invariant i u h ∙ ap (λ (b : Bool). is_marked c.args.self.now.table i u || b) parts;
}
