use Rattle.fcl_check.proofs.Words.{AllZip, IsRuleOf, take}
use Rattle.fcl_check.proofs.build.block.rules.Given as goal

abbrev pub invariant-loop-next : goal.invariant-loop-next
invariant-loop-next l =
    AllZip (IsRuleOf l.source.names.now.tree.now.text.items l.source.names.now.tree.now.block)
    (take l.next-index l.source.names.now.tree.now.block.rules.rules) l.rules.items
