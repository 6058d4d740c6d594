use Rattle.std.proofs.Common.{◌≡◌, ◌++◌, map, take}
use Rattle.run_forms.specs.Rows.{boundary_seen}
use Rattle.run_reports.specs.RowLines.{frame_line}
use Rattle.run_reports.proofs.row_lines.push_frames.Given as goal

abbrev pub invariant-loop-frame : goal.invariant-loop-frame
invariant-loop-frame l = l.lines.items
    ≡ l.initial.lines.items ++ map (λ f. frame_line l.k (boundary_seen f)) (take l.frame-index l.frames)
