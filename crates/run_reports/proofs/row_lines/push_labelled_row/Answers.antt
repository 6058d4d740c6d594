use Rattle.fz_shelf.proofs.Algebra.{bare-append, bare-decimal}
use Rattle.run_reports.proofs.row_lines.push_labelled_row.Goals as goal

pub push_row-requires : goal.push_row-requires
push_row-requires c = rw (c.as_str.ensures.value, c.in_ok-push_count.ensures, c.new-rest.ensures.bytes)
    (bare-append c.args.label.now _ c.requires (bare-decimal _))
