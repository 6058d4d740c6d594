use Rattle.form_commands.proofs.Words.{◌++◌, ◌≡◌, inner_line, inner_seen, take}
use Rattle.std.proofs.{Common.map}
use Rattle.form_commands.proofs.two_level_lines.push_inner.Given as goal

abbrev pub invariant-loop-frame : goal.invariant-loop-frame
invariant-loop-frame l =
    l.lines.items ≡ l.initial.lines.items ++ map (λ f. inner_line (inner_seen f)) (take l.frame-index l.frames)
