use Rattle.watched_runs.proofs.{Samples.bytes_there, Samples.is_of_trace, Shown.row_is}
use Rattle.watched_runs.proofs.form.WatchedFormRunFormRequestNotesUnitWatchedRow.row.Goals as goal

pub bytes_of-requires : goal.bytes_of-requires
bytes_of-requires g c =
    is_of_trace c.args.self.now.upsets.now c.args.self.now.samples.now c.args.k c.requires.sample

pub returns : goal.returns
returns g c = λ x is.
    let a = c.args in
    row_is a.self.now.firmware.now x a.counts a.m.now.state _ _ _ _ c.row_of.ensures.row c.answers-answers.ensures
    c.peek.ensures (c.bytes_of.ensures.bytes x.bytes (bytes_there 1 a.self.now.upsets.now _ a.k x is))
