use Rattle.form_commands.proofs.Words.{◌++◌, ◌≡◌, begun_lines, counted, handled_row_lines, take}
use Rattle.handled_runs.specs.Forms.{row_seen}
use Rattle.form_commands.proofs.hrun.lines.Given as goal

abbrev pub invariant-loop-at : goal.invariant-loop-at
invariant-loop-at l =
    l.lines.items ≡ begun_lines l.errors l.bound ++ counted (λ k r. handled_row_lines k (row_seen r)) 1
    (take l.at l.rows)
