use Rattle.std.proofs.Common.{◌≡◌, ℕ, length, sym, ap, subst, arith}
use Rattle.std.proofs.lemmas.Option.{slice_get_within}
use Rattle.fuzzy_meaning.specs.{Conditions.Condition, declared.block.Rule.Rule}
use Rattle.error_bound.specs.Flattening.{flat, ReachesAlike}
use Rattle.error_bound.proofs.ListLemmas.{AreFilled-read}
use Rattle.error_bound.proofs.tables.flat_conditions.Goals as goal

pub loop-rule-init : goal.loop-rule-init
loop-rule-init c = (ap length c.new-conditions.ensures.items, λ k x lt e. absurd (omega arith))

pub loop-rule-preserved : goal.loop-rule-preserved
loop-rule-preserved c =
    AreFilled-read (λ (_ : ℕ) (r : Rule) (d : Condition). d ≡ flat r.cond) c.args.block.now.rules
    c.as_slice-rule-items.result.now c.loop-rule.rule-index c.rule-item.result c.as_slice-rule-items.ensures
    c.rule-item.is c.loop-rule.conditions.items _ c.in_ok-condition.condition c.loop-rule.invariant
    c.in_ok-push.ensures.items c.in_ok-condition.ensures

pub returns : goal.returns
returns c k r e =
    let l = slice_get_within c.args.block.now.rules k r e in
    let lens = ap length c.as_slice-rule-items.ensures in
    let end = c.loop-rule-test.false in
    let found = c.loop-rule.invariant.1 k r (omega (arith, l, lens, end)) e in
    let alike = c.flattening_keeps_reaches.ensures c.args.block.now r.cond in
    (found.0, found.1, subst (ReachesAlike c.args.block.now r.cond) (sym found.2) alike)
