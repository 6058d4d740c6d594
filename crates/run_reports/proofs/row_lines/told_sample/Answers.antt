use Rattle.std.proofs.Common.{◌≡◌, ◌∙◌, length, sym}
use Rattle.std.proofs.lemmas.List.{length-map}
use Rattle.alone_runs.specs.Rows.{row_seen}
use Rattle.run_forms.specs.Rows.{boundary_seen, frames_seen}
use Rattle.run_reports.proofs.Algebra.{bare-sample, sample_written}
use Rattle.run_reports.proofs.row_lines.told_sample.Goals as goal

pub returns : goal.returns
returns c =
    let row = row_seen c.args.row.now in
    let frames : c.len.result ≡ length (frames_seen c.args.row.now.frames) =
    c.len.ensures ∙ sym (length-map c.args.row.now.frames boundary_seen) in
    let told = sample_written _ _ _ _ _ _ _ _ _ _ _ _ _ c.in_ok-text.ensures.ok c.in_ok-write.ensures.bytes
    (rw c.as_slice.ensures.value at (rw c.as_slice-2.ensures.value at c.in_ok-push_answered.ensures))
    c.in_ok-push_count.ensures
    c.in_ok-push_count-2.ensures (rw frames at c.in_ok-push_count-3.ensures) in
    record { told = told; bare = rw told (bare-sample c.args.k row) }
