use Rattle.std.proofs.Common.{arith}
use Rattle.std.specs.Prelude.{pos}
use Rattle.error_bound.specs.Bounds.{offset}
use Rattle.error_bound.proofs.TightLawLemmas.{greatest_if_some}
use Rattle.error_bound.proofs.tight.live_offset.Goals as goal

pub loop-k-preserved : goal.loop-k-preserved
loop-k-preserved c =
    greatest_if_some (offset c.args.output.now) 510002550000 c.args.highs.now
    c.as_slice-singletons.result.now c.loop-k.k
    (record { 0 = pos 0 }) c.offset.result c.if_some.result c.loop-k.greatest _ (omega (arith, c.loop-k-test.true))
    (omega (arith, c.loop-k.auto.k)) c.offset.ensures.value c.offset.ensures.small c.if_some.ensures
    c.max-greatest.ensures c.loop-k.invariant
