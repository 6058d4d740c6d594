use Rattle.fz_shelf.proofs.Algebra.{bare-append}
use Rattle.run_reports.proofs.Algebra.{bare-frame}
use Rattle.run_reports.proofs.row_lines.labelled_frame.Goals as goal

pub of-requires : goal.of-requires
of-requires c = rw (c.in_ok-push_frame.ensures, c.in_ok-text.ensures.ok)
    (bare-append c.args.label.now _ c.requires (bare-frame _))
