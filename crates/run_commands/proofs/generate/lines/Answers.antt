use Rattle.std.proofs.Common.{append_assoc}
use Rattle.run_commands.proofs.Words.{length-map}
use Rattle.run_commands.proofs.generate.lines.Goals as goal

pub returns : goal.returns
returns c = rw (
  c.in_ok-push_labelled-6.ensures,
  c.in_ok-push_labelled-5.ensures,
  c.in_ok-push_labelled-4.ensures,
  c.in_ok-push_labelled-3.ensures,
  c.in_ok-push_labelled-2.ensures,
  c.in_ok-push_errors.ensures,
  c.in_ok-push_labelled.ensures,
  c.over-sums.ensures.frames,
  c.over-sums.ensures.resumed,
  c.over-sums.ensures.answers,
  c.from.ensures,
  c.from-2.ensures,
) (simp (append_assoc, length-map) (rw c.new-lines.ensures.items))
