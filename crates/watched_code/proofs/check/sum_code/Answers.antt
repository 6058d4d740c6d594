use Rattle.watched_code.proofs.Words.{arith}
use Rattle.watched_code.proofs.watching.Emitting.{is_segment}
use Rattle.watched_code.proofs.check.sum_code.Goals as goal

pub overflow_cast-len : goal.overflow_cast-len
overflow_cast-len c =
    let one = is_segment c.args.segments.now c.loop-segment.segment-index c.segment-item.result c.loop-segment-test.true
    c.segment-item.is c.requires in
    omega (arith, c.len.ensures, one.2)

pub overflow_add-segment : goal.overflow_add-segment
overflow_add-segment c =
    let one = is_segment c.args.segments.now c.loop-segment.segment-index c.segment-item.result c.loop-segment-test.true
    c.segment-item.is c.requires in
    omega (arith, c.len.ensures, one.2)
