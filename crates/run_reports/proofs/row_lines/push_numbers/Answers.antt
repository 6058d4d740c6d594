use Rattle.run_reports.proofs.Algebra.{number_more}
use Rattle.run_reports.proofs.row_lines.push_numbers.Goals as goal

pub loop-number-preserved : goal.loop-number-preserved
loop-number-preserved c =
    number_more _ _ _ c.args.values.now c.loop-number.number-index _ c.loop-number-test.true c.loop-number.invariant
    c.in_ok-write.ensures.bytes
