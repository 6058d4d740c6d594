use Rattle.fz_shelf.proofs.Algebra.{bare-append, bare-decimal}
use Rattle.run_reports.proofs.Algebra.{bare-frame}
use Rattle.run_reports.proofs.row_lines.line_of_frame.Goals as goal

pub of-requires : goal.of-requires
of-requires c = rw (c.in_ok-push_frame.ensures, c.in_ok-write.ensures.bytes, c.in_ok-text.ensures.ok)
    (search (bare-append, bare-decimal, bare-frame))
