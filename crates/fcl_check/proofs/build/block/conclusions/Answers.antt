use Rattle.fcl_check.proofs.Words.{conclusion_of, refl}
use Rattle.fcl_check.proofs.Elements.{mapped_more}
use Rattle.fcl_check.proofs.build.block.conclusions.Goals as goal

pub loop-more-init : goal.loop-more-init
loop-more-init c = rw (c.in_ok-push.ensures.items, c.new-places.ensures.items, c.conclusion.ensures.same) refl

pub loop-more-preserved : goal.loop-more-preserved
loop-more-preserved c = mapped_more
    (conclusion_of c.args.source.now.names.now.tree.now.text.items c.args.source.now.names.now.tree.now.block)
    c.args.rule.now.first c.args.rule.now.more
    c.loop-more.more-index _ c.loop-more.places.items c.push-in-loop-more.new.self.items c.conclusion-in-loop-more.result
    (rw c.as_slice-more-items.ensures at c.loop-more-test.true) c.loop-more.invariant
    (rw c.as_slice-more-items.ensures at c.conclusion-in-loop-more.ensures.same) c.in_ok-push-2.ensures.items
