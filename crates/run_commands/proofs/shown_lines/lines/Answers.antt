use Rattle.run_commands.proofs.Words.{counted-map}
use Rattle.run_commands.proofs.shown_lines.lines.Goals as goal

pub returns : goal.returns
returns c =
    rw (c.in_ok-push_rows.ensures, c.in_ok-push_shown.ensures, c.new-lines.ensures.items, counted-map)
