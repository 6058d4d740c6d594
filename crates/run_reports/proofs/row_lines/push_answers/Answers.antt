use Rattle.std.proofs.Common.{append_assoc}
use Rattle.run_reports.proofs.row_lines.push_answers.Goals as goal

pub returns : goal.returns
returns c =
    rw (c.in_ok-push_count.ensures, c.in_ok-push_numbers.ensures, c.in_ok-push_str.ensures.bytes) (simp append_assoc)
