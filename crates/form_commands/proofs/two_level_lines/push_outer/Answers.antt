use Rattle.form_commands.proofs.Words.{◌∙◌, ap, boundary_seen, Frame, frame_line, row_seen, ℕ}
use Rattle.form_commands.proofs.TwoLevelLines.{outer_more}
use Rattle.form_commands.proofs.two_level_lines.push_outer.Goals as goal

pub loop-at-preserved : goal.loop-at-preserved
loop-at-preserved c =
    let own = λ (f : ℕ × Frame). frame_line c.args.k (boundary_seen f) in
    outer_more _ c.loop-at.lines.items _ _ c.in_ok-line_of_frame.field-0 c.args.k c.loop-at.at
    (row_seen c.args.row.now).fast _ c.index-frames-at.result c.loop-at-test.true c.loop-at.invariant
    c.in_ok-push.ensures.items (c.in_ok-line_of_frame.ensures ∙ ap own c.index-frames-at.is) c.in_ok-push_fast.ensures
