use Rattle.std.proofs.Common.{sym, subst}
use Rattle.debug_script.specs.{Going.AreTold, Going.place_of, Places.distance, Showing.stops}
use Rattle.debug_script.proofs.GoingLemmas.{told_on}
use Rattle.debug_script.proofs.debugger.obey.Goals as goal

pub stop-requires : goal.stop-requires
stop-requires g c =
    let told : AreTold (place_of c.step.new.session) =
    subst AreTold (sym c.step.ensures.place) (told_on c.in-Step.count (place_of c.args.session.now) c.requires.told) in
    told.0

pub stop-requires-in-Go : goal.stop-requires-in-Go
stop-requires-in-Go g c =
    let place = place_of c.args.session.now in
    let told : AreTold (place_of c.go.new.session) =
    subst AreTold (sym c.go.ensures.place) (told_on (distance (stops c.args.marks.now) place) place c.requires.told) in
    told.0

pub returns-in_ok-push-in-Step-clause-notes : goal.returns-in_ok-push-in-Step-clause-notes
returns-in_ok-push-in-Step-clause-notes g c = c.step.ensures.notes c.args.marks.now.watches c.requires.notes
