use Rattle.run_reports.proofs.Algebra.{number_more}
use Rattle.run_reports.proofs.row_lines.push_bytes.Goals as goal

pub loop-byte-preserved : goal.loop-byte-preserved
loop-byte-preserved c =
    number_more _ _ _ c.args.values.now c.loop-byte.byte-index _ c.loop-byte-test.true c.loop-byte.invariant
    c.in_ok-write.ensures.bytes
