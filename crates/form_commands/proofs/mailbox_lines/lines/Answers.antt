use Rattle.form_commands.proofs.Words.{counted-map, map-map}
use Rattle.std.proofs.Common.{append_assoc}
use Rattle.form_commands.proofs.mailbox_lines.lines.Goals as goal

pub returns : goal.returns
returns c = rw (
  c.in_ok-push_labelled.ensures,
  c.in_ok-push_labelled_frames.ensures,
  c.in_ok-push_answers.ensures,
  c.in_ok-lines.ensures,
  c.from.ensures,
  c.deref.ensures.value,
  c.deref-2.ensures.value,
  append_assoc,
  append_assoc,
  counted-map,
  map-map,
)
