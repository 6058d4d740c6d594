use Rattle.form_commands.proofs.Words.{◌++◌, ◌≡◌, begun_lines, counted, take, watched_row_lines}
use Rattle.watched_runs.specs.Rows.{row_seen}
use Rattle.form_commands.proofs.srun.lines.Given as goal

abbrev pub invariant-loop-at : goal.invariant-loop-at
invariant-loop-at l =
    l.lines.items ≡ begun_lines l.errors l.bound ++ counted (λ k r. watched_row_lines k (row_seen r)) 1
    (take l.at l.rows)
