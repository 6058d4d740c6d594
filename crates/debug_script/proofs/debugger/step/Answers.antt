use Rattle.std.proofs.Common.{◌∙◌, refl, sym, subst}
use Rattle.debug_script.specs.Noting.{NotesBytes}
use Rattle.debug_script.proofs.GoingLemmas.{GoesOn, goes_on, leads_more, step_more}
use Rattle.debug_script.proofs.NotingLemmas.{notes_there}
use Rattle.debug_script.proofs.debugger.step.Goals as goal

pub returns-then-not-advance-clause-notes : goal.returns-then-not-advance-clause-notes
returns-then-not-advance-clause-notes g c = λ watches before.
    subst (NotesBytes watches) (sym (c.if-not-advance.ensures.ends refl).1) (c.loop-left.invariant.notes watches before)

pub loop-left-preserved : goal.loop-left-preserved
loop-left-preserved g c =
    let old = c.loop-left.session in
    let there = c.advance.new.self in
    let new = c.note.new.self in
    let e : GoesOn old new = goes_on old there new (c.if-not-advance.ensures.goes refl) c.note.ensures.rest in
    record {
      place = sym (step_more old new c.loop-left.left e c.loop-left-test.true) ∙ c.loop-left.invariant.place;
      leads = leads_more c.args.session.now old new e c.loop-left.invariant.leads;
      notes = λ watches before.
          notes_there watches old there new c.if-not-advance.ensures.noted c.has_all_bytes.ensures
          c.note.ensures.rest c.note.ensures.noted (c.loop-left.invariant.notes watches before);
    }
