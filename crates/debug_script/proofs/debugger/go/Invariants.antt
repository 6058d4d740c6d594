use Rattle.std.proofs.Common.{◌≡◌, length}
use Rattle.debug_script.specs.{Going.Leads, Going.place_of, Noting.NotesBytes, Places.distance, Places.on}
use Rattle.debug_script.specs.Showing.{stops}
use Rattle.debug_script.proofs.debugger.go.Given as goal

abbrev pub invariant-loop-session : goal.invariant-loop-session
invariant-loop-session g l = record {
  place : on (distance (stops l.marks) (place_of l.session)) (place_of l.session)
      ≡ on (distance (stops l.marks) (place_of l.fn.session)) (place_of l.fn.session);
  leads : Leads l.fn.session l.session;
  notes : NotesBytes l.marks.watches l.session;
}

abbrev pub decreases-loop-session : goal.decreases-loop-session
decreases-loop-session g l = length l.session.rest.later
