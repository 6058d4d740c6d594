use Rattle.std.proofs.Common.{◌∙◌}
use Rattle.watched_runs.proofs.{Samples.bytes_there, Samples.found_there, Samples.is_of_trace, Shown.given_is}
use Rattle.watched_runs.proofs.form.WatchedFormRunFormRequestNotesUnitWatchedRow.give.Goals as goal

pub bytes_of-requires : goal.bytes_of-requires
bytes_of-requires g c =
    is_of_trace c.args.self.now.upsets.now c.args.self.now.samples.now c.args.k c.requires

pub number_of-requires : goal.number_of-requires
number_of-requires g c =
    is_of_trace c.args.self.now.upsets.now c.args.self.now.samples.now c.args.k c.requires

pub returns-clause-state : goal.returns-clause-state
returns-clause-state g c = λ x is.
    let a = c.args in
    let upsets = a.self.now.upsets.now in
    c.change.ensures.state
    ∙ given_is a.self.now.firmware.now.memory_map x _ _ a.m.now.state c.give.new.m.state c.give.ensures.state
    (c.bytes_of.ensures.bytes x.bytes (bytes_there 1 upsets _ a.k x is))
    (found_there upsets _ a.k _ x _ is c.number_of.ensures c.upset_of.ensures)
