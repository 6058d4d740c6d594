use Rattle.std.proofs.Common.{append_assoc}
use Rattle.form_commands.proofs.two_level_lines.begun.Goals as goal

pub returns : goal.returns
returns c = rw (
  c.in_ok-push_labelled-2.ensures,
  c.in_ok-push_labelled.ensures,
  c.in_ok-push_errors-2.ensures,
  c.in_ok-push_errors.ensures,
  c.new-lines.ensures.items,
  c.from-bound.ensures,
  c.from-fast_bound.ensures,
  c.fast_bound.ensures,
) (simp append_assoc)
