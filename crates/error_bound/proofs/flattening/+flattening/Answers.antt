use Rattle.std.proofs.Common.{inl, inr, sym, ap, ap₂, ◌∙◌, rules}
use mathlib.Core.Bool.{beq}
use Rattle.fuzzy_meaning.specs.{Conditions.conditions, Conditions.under, Trees.tree}
use Rattle.fuzzy_meaning.proofs.Algebra.{parts_fall}
use Rattle.error_bound.specs.Flattening.{followed, parts, flat_parts, is_any}
use Rattle.error_bound.proofs.FlatteningLemmas.{come_from_more, come_from_all, pushed_group, pushed_literal}
use Rattle.error_bound.proofs.flattening.+flattening.Goals as goal

pub push_each-loop-part-preserved : goal.push_each-loop-part-preserved
push_each-loop-part-preserved t c =
    come_from_more (is_any c.args.group) c.args.odd c.args.parts.now c.loop-part.part-index c.part-item.result _ _ _
    c.loop-part-test.true c.part-item.is c.loop-part.invariant c.in_ok-push_pieces.ensures

pub push_each-returns : goal.push_each-returns
push_each-returns t c =
    come_from_all (is_any c.args.group) c.args.odd c.args.parts.now c.loop-part.part-index _ _ (search rules)
    c.loop-part.invariant

pub push_group-returns : goal.push_group-returns
push_group-returns t c =
    let ps = conditions c.args.parts.now in
    pushed_group (is_any c.args.outer) (is_any c.args.group) c.args.odd ps _ _ _ c.grouped.result (ap₂ beq (sym c.is_any.ensures) (sym c.is_any-2.ensures) ∙ c.if-is_any.false)
    c.in_ok-push.ensures.items c.grouped.ensures
    (c.in_ok-push_each.ensures
    ∙ ap (λ xs. followed (conditions xs) (parts (is_any c.args.group) (flat_parts c.args.odd (is_any c.args.group) ps)))
    c.new-inner.ensures.items)

pub push_pieces-returns-in_ok-push-in-Is : goal.push_pieces-returns-in_ok-push-in-Is
push_pieces-returns-in_ok-push-in-Is t c =
    pushed_literal (is_any c.args.outer) c.args.odd _ _ c.in_ok-literal-in-Is.literal c.args.condition.now c.in-Is.input
    c.in-Is.term c.in_ok-push-in-Is.ensures.items
    (c.in_ok-literal-in-Is.ensures ∙ ap (under c.args.odd) c.is.ensures)
    (sym c.condition.view_is ∙ ap tree c.in-Is.is)

pub push_pieces-push_group-requires : goal.push_pieces-push_group-requires
push_pieces-push_group-requires t c =
    (search (rules, parts_fall c.condition.view_is (inl c.in-And.is) c.deref-in-And.ensures.value), tt)

pub push_pieces-push_group-requires-in-Or : goal.push_pieces-push_group-requires-in-Or
push_pieces-push_group-requires-in-Or t c =
    (search (rules, parts_fall c.condition.view_is (inr c.in-Or.is) c.deref-in-Or.ensures.value), tt)
