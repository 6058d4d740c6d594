use Rattle.std.proofs.Common.{append_assoc}
use Rattle.run_reports.proofs.row_lines.push_answered.Goals as goal

pub returns : goal.returns
returns c = rw (
  c.in_ok-push_answers.ensures,
  c.in_ok-push_bytes.ensures,
  c.in_ok-push_str.ensures.bytes,
  append_assoc,
  append_assoc,
)
