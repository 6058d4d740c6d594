use Rattle.run_commands.proofs.Words.{◌++◌, ◌≡◌, map, shown_line, take}
use Rattle.run_commands.proofs.shown_lines.push_shown.Given as goal

abbrev pub invariant-loop-item : goal.invariant-loop-item
invariant-loop-item l = l.lines.items ≡ l.initial.lines.items ++ map shown_line (take l.item-index l.shown)
