use Rattle.std.proofs.Common.{◌≡◌, ◌++◌, map, take}
use Rattle.fz_shelf.specs.Parts.{ended}
use Rattle.run_forms.specs.Rows.{boundary_seen}
use Rattle.run_reports.specs.RowLines.{frame_told}
use Rattle.run_reports.proofs.row_lines.push_labelled_frames.Given as goal

abbrev pub invariant-loop-frame : goal.invariant-loop-frame
invariant-loop-frame l = l.lines.items ≡ l.initial.lines.items
    ++ map (λ f. ended (l.label ++ frame_told (boundary_seen f))) (take l.frame-index l.frames)
