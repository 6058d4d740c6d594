use Rattle.std.proofs.Common.{append_assoc}
use Rattle.run_commands.proofs.Words.{counted-map}
use Rattle.run_commands.proofs.run.lines.Goals as goal

pub returns : goal.returns
returns c = rw (
  c.in_ok-push_labelled.ensures,
  c.in_ok-push_rows.ensures,
  c.in_ok-lines.ensures,
  c.from.ensures,
  append_assoc,
  counted-map,
)
