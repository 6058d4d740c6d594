use Rattle.fcl_check.proofs.Words.{All-from_recursion, all_zipped_more, IsRuleOf, IsWellFormedRule, refl, subst, sym}
use Rattle.fcl_check.proofs.Words.{take}
use Rattle.fcl_check.proofs.{Faultless.faultless, Faultless.well_formed_rules, Places.one_further}
use Rattle.fcl_check.proofs.build.block.rules.Goals as goal

pub loop-next-preserved : goal.loop-next-preserved
loop-next-preserved c =
    let value = c.as_slice-next-items.ensures in
    let nodes = c.args.source.now.names.now.tree.now.block.rules.rules in
    let node = c.next-item.result in
    let more = one_further nodes c.loop-next.next-index node node (rw value at c.loop-next-test.true)
    (rw value at c.next-item.is) refl in
    let IsRule = IsRuleOf c.args.source.now.names.now.tree.now.text.items c.args.source.now.names.now.tree.now.block in
    rw (c.in_ok-push.ensures.items, more) (all_zipped_more IsRule
    (take c.loop-next.next-index nodes) c.loop-next.rules.items node c.in_ok-next.next c.loop-next.invariant c.in_ok-next.ensures)

pub rule-requires : goal.rule-requires
rule-requires c =
    let source = c.args.source.now in
    let text = source.names.now.tree.now.text.items in
    let block = source.names.now.tree.now.block in
    let value = c.as_slice-next-items.ensures in
    let well_formed = All-from_recursion (IsWellFormedRule text block) block.rules.rules
    (well_formed_rules text block (faultless text block source.well_formed)) in
    subst (IsWellFormedRule text block) (sym (rw value at c.next-item.is))
    (well_formed c.loop-next.next-index c.next-item.result (rw value at c.loop-next-test.true))
