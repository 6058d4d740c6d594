use Rattle.form_commands.proofs.Words.{map-map}
use Rattle.std.proofs.Common.{append_assoc}
use Rattle.form_commands.proofs.two_level_lines.push_run.Goals as goal

pub returns : goal.returns
returns c = rw (
  c.in_ok-push_inner.ensures,
  c.as_slice.ensures.value,
  c.in_ok-push.ensures.items,
  c.in_ok-line_of_fast.ensures,
  append_assoc,
  map-map,
)
