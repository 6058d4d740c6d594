use Rattle.form_commands.proofs.Words.{◌++◌, ◌+◌, ◌∙◌, ap, two_level_row_lines, lines_more, row_seen, TwoRow}
use Rattle.form_commands.proofs.two_level_lines.push_rows.Goals as goal

pub loop-at-preserved : goal.loop-at-preserved
loop-at-preserved c =
    let more = λ (r : TwoRow). c.loop-at.lines.items ++ two_level_row_lines (c.loop-at.at + 1) (row_seen r) in
    lines_more (λ k r. two_level_row_lines k (row_seen r)) c.args.rows.now c.loop-at.at c.index-rows-at.result _ _ _
    c.loop-at-test.true c.loop-at.invariant (c.in_ok-push_row.ensures ∙ ap more c.index-rows-at.is)
