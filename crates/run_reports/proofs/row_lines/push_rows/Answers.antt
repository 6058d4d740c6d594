use Rattle.std.proofs.Common.{◌+◌, ◌∙◌, ◌++◌, ap}
use Rattle.alone_runs.specs.{Rows.row_seen, declared.rows.Row.Row}
use Rattle.run_reports.specs.RowLines.{row_lines}
use Rattle.command_parts.proofs.Algebra.{lines_more}
use Rattle.run_reports.proofs.row_lines.push_rows.Goals as goal

pub loop-at-preserved : goal.loop-at-preserved
loop-at-preserved c =
    let more = λ (r : Row). c.loop-at.lines.items ++ row_lines (c.loop-at.at + 1) (row_seen r) in
    lines_more (λ k r. row_lines k (row_seen r)) c.args.rows.now c.loop-at.at c.index-rows-at.result _ _ _
    c.loop-at-test.true c.loop-at.invariant (c.in_ok-push_row.ensures ∙ ap more c.index-rows-at.is)
