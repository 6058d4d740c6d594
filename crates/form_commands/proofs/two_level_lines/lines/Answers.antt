use Rattle.form_commands.proofs.Words.{counted-map}
use Rattle.form_commands.proofs.two_level_lines.lines.Goals as goal

pub returns : goal.returns
returns c = rw (c.in_ok-push_rows.ensures, c.in_ok-lines.ensures, counted-map)
