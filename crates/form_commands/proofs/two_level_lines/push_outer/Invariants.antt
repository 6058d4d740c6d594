use Rattle.form_commands.proofs.Words.{◌++◌, ◌≡◌, boundary_seen, counted, outer_lines, row_seen, take}
use Rattle.form_commands.proofs.two_level_lines.push_outer.Given as goal

abbrev pub invariant-loop-at : goal.invariant-loop-at
invariant-loop-at l = l.lines.items ≡ l.initial.lines.items
    ++ counted (λ n f. outer_lines l.k (row_seen l.row).fast n (boundary_seen f)) 1 (take l.at l.frames)
