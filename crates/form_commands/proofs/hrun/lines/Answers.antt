use Rattle.form_commands.proofs.Words.{◌++◌, ◌+◌, ◌∙◌, ap, handled_row_lines, HandledRow, lines_more}
use Rattle.handled_runs.specs.{Forms.row_seen}
use Rattle.form_commands.proofs.hrun.lines.Goals as goal

pub loop-at-preserved : goal.loop-at-preserved
loop-at-preserved c =
    let more = λ (r : HandledRow). c.loop-at.lines.items ++ handled_row_lines (c.loop-at.at + 1) (row_seen r) in
    lines_more (λ k r. handled_row_lines k (row_seen r)) c.args.rows.now c.loop-at.at c.index-rows-at.result _ _ _
    c.loop-at-test.true c.loop-at.invariant (c.in_ok-push_labelled_row.ensures ∙ ap more c.index-rows-at.is)
