use Rattle.std.proofs.Common.{◌≡◌, ◌++◌, take}
use Rattle.alone_runs.specs.Rows.{row_seen}
use Rattle.command_parts.specs.Lines.{counted}
use Rattle.run_reports.specs.RowLines.{row_lines}
use Rattle.run_reports.proofs.row_lines.push_rows.Given as goal

abbrev pub invariant-loop-at : goal.invariant-loop-at
invariant-loop-at l =
    l.lines.items ≡ l.initial.lines.items ++ counted (λ k r. row_lines k (row_seen r)) 1 (take l.at l.rows)
