use Rattle.std.proofs.Common.{◌≡◌}
use Rattle.debug_script.specs.{Going.Leads, Going.place_of, Noting.KeepsNotes, Places.on}
use Rattle.debug_script.proofs.debugger.step.Given as goal

abbrev pub invariant-loop-left : goal.invariant-loop-left
invariant-loop-left g l = record {
  place : on l.left (place_of l.session) ≡ on l.count (place_of l.fn.session);
  leads : Leads l.fn.session l.session;
  notes : KeepsNotes l.fn.session l.session;
}

abbrev pub decreases-loop-left : goal.decreases-loop-left
decreases-loop-left g l = l.left
