use Rattle.std.proofs.Common.{◌∙◌, refl, sym}
use Rattle.debug_script.proofs.GoingLemmas.{further_place, goes_on, leads_more, stopped_place}
use Rattle.debug_script.proofs.NotingLemmas.{notes_there, stops_at_next}
use Rattle.debug_script.proofs.debugger.go.Goals as goal

pub returns-then-stops-clause-place : goal.returns-then-stops-clause-place
returns-then-stops-clause-place g c =
    let marks = c.args.marks.now in
    let old = c.loop-session.session in
    let new = c.note.new.self in
    let e = goes_on old c.advance.new.self new (c.loop-session-test.ensures.goes refl) c.note.ensures.rest in
    let is = stops_at_next marks old c.advance.new.self new _ c.loop-session-test.ensures.noted c.has_all_bytes.ensures
    c.note.ensures.rest c.loop-session.invariant.notes c.is_stopped-stops.ensures ∙ c.if-stops.true in
    sym (stopped_place marks old new e is) ∙ c.loop-session.invariant.place

pub returns-then-stops-clause-leads : goal.returns-then-stops-clause-leads
returns-then-stops-clause-leads g c =
    let old = c.loop-session.session in
    let new = c.note.new.self in
    let e = goes_on old c.advance.new.self new (c.loop-session-test.ensures.goes refl) c.note.ensures.rest in
    leads_more c.args.session.now old new e c.loop-session.invariant.leads

pub returns-then-stops-clause-notes : goal.returns-then-stops-clause-notes
returns-then-stops-clause-notes g c =
    notes_there c.args.marks.now.watches c.loop-session.session c.advance.new.self c.note.new.self
    c.loop-session-test.ensures.noted c.has_all_bytes.ensures c.note.ensures.rest c.note.ensures.noted
    c.loop-session.invariant.notes

pub loop-session-preserved : goal.loop-session-preserved
loop-session-preserved g c =
    let marks = c.args.marks.now in
    let old = c.loop-session.session in
    let there = c.advance.new.self in
    let new = c.note.new.self in
    let e = goes_on old there new (c.loop-session-test.ensures.goes refl) c.note.ensures.rest in
    let off = stops_at_next marks old there new _ c.loop-session-test.ensures.noted c.has_all_bytes.ensures
    c.note.ensures.rest c.loop-session.invariant.notes c.is_stopped-stops.ensures ∙ c.if-stops.false in
    record {
      place = sym (further_place marks old new e off) ∙ c.loop-session.invariant.place;
      leads = leads_more c.args.session.now old new e c.loop-session.invariant.leads;
      notes = notes_there marks.watches old there new c.loop-session-test.ensures.noted c.has_all_bytes.ensures
          c.note.ensures.rest c.note.ensures.noted c.loop-session.invariant.notes;
    }
