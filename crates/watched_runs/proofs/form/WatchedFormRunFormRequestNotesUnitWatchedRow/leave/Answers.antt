use Rattle.std.proofs.Common.{◌∙◌, ap}
use Rattle.std.specs.Prelude.{Option}
use Rattle.cpu12_emul.specs.Image.{image_memory}
use Rattle.watched_code.specs.Watched.{Change, restored}
use Rattle.watched_runs.proofs.Samples.{found_there, is_of_trace}
use Rattle.watched_runs.proofs.form.WatchedFormRunFormRequestNotesUnitWatchedRow.leave.Goals as goal

pub number_of-requires : goal.number_of-requires
number_of-requires g c =
    is_of_trace c.args.self.now.upsets.now c.args.self.now.samples.now c.args.k c.requires

pub returns-clause-state : goal.returns-clause-state
returns-clause-state g c = λ x is.
    c.restore.ensures.state
    ∙ ap (λ (d : Option Change). restored (image_memory c.args.self.now.firmware.now.image.bytes) d c.args.m.now.state)
    (found_there c.args.self.now.upsets.now _ c.args.k _ x _ is c.number_of.ensures c.upset_of.ensures)
