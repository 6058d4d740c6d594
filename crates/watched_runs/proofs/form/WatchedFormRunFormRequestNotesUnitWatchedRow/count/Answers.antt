use Rattle.std.proofs.Common.{sym}
use Rattle.watched_runs.proofs.Samples.{count_given}
use Rattle.watched_runs.proofs.form.WatchedFormRunFormRequestNotesUnitWatchedRow.count.Goals as goal

pub returns : goal.returns
returns c = sym (count_given c.args.self.now.upsets.now c.args.self.now.samples.now)
