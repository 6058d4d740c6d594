use Rattle.form_commands.proofs.Words.{◌++◌, ◌+◌, ◌∙◌, ap, lines_more, watched_row_lines, WatchedRow}
use Rattle.watched_runs.specs.{Rows.row_seen}
use Rattle.form_commands.proofs.srun.lines.Goals as goal

pub loop-at-preserved : goal.loop-at-preserved
loop-at-preserved c =
    let more = λ (r : WatchedRow). c.loop-at.lines.items ++ watched_row_lines (c.loop-at.at + 1) (row_seen r) in
    lines_more (λ k r. watched_row_lines k (row_seen r)) c.args.rows.now c.loop-at.at c.index-rows-at.result _ _ _
    c.loop-at-test.true c.loop-at.invariant ((rw c.from-fault.ensures at c.in_ok-push_labelled_row.ensures)
    ∙ ap more c.index-rows-at.is)
