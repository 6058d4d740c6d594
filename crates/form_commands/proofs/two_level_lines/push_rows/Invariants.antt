use Rattle.form_commands.proofs.Words.{◌++◌, ◌≡◌, counted, two_level_row_lines, row_seen, take}
use Rattle.form_commands.proofs.two_level_lines.push_rows.Given as goal

abbrev pub invariant-loop-at : goal.invariant-loop-at
invariant-loop-at l =
    l.lines.items ≡ l.initial.lines.items ++ counted (λ k r. two_level_row_lines k (row_seen r)) 1 (take l.at l.rows)
