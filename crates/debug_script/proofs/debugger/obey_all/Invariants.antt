use Rattle.std.proofs.Common.{◌≡◌, ◌++◌, drop}
use Rattle.debug_script.specs.Going.{AreTold, Leads, place_of}
use Rattle.debug_script.specs.{Noting.NotesBytes, Showing.shown, Showing.shown_from}
use Rattle.debug_script.proofs.debugger.obey_all.Given as goal

abbrev pub invariant-loop-order : goal.invariant-loop-order
invariant-loop-order g l = record {
  shown : l.all.items ++ shown_from l.marks (drop l.order-index l.script) (place_of l.session) ≡ shown l.script
      (place_of l.fn.session);
  leads : Leads l.fn.session l.session;
  told : AreTold (place_of l.session);
  notes : NotesBytes l.marks.watches l.session;
}
