use Rattle.form_commands.proofs.Words.{counted-map}
use Rattle.std.proofs.Common.{append_assoc}
use Rattle.form_commands.proofs.two_level_lines.push_row.Goals as goal

pub returns : goal.returns
returns c = rw (
  c.in_ok-push_outer.ensures,
  c.in_ok-push.ensures.items,
  c.in_ok-of.ensures,
  c.in_ok-told_sample.ensures.told,
  append_assoc,
  counted-map,
)
