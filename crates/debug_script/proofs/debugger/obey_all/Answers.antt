use Rattle.std.proofs.Common.{◌∙◌, ◌+◌, drop, sym, subst}
use Rattle.std.proofs.lemmas.List.{drop_more}
use Rattle.debug_script.specs.{Going.AreTold, Going.place_of, Showing.shown}
use Rattle.debug_script.proofs.GoingLemmas.{order_more, starts_shown, stays, told_after}
use Rattle.debug_script.proofs.NotingLemmas.{notes_nothing}
use Rattle.debug_script.proofs.debugger.obey_all.Goals as goal

pub loop-order-init : goal.loop-order-init
loop-order-init g c =
    let session = c.args.session.now in
    let marks = c.in_ok-marks.marks in
    record {
      shown = starts_shown marks c.args.script.now (place_of session) c.new-all.result.items c.in_ok-marks.ensures
          c.new-all.ensures.items;
      leads = stays session;
      told = c.requires.told;
      notes = notes_nothing marks session c.in_ok-marks.ensures c.requires.notes c.nothing_is_watched.ensures;
    }

pub loop-order-preserved : goal.loop-order-preserved
loop-order-preserved g c =
    let l = c.loop-order in
    let script = c.args.script.now in
    let place = place_of l.session in
    let there = place_of c.obey.new.session in
    record {
      shown = order_more l.marks c.obey.new.marks _ (drop l.order-index script) (drop (l.order-index + 1) script)
          place there l.all.items c.obey.new.shown.items (shown script (place_of c.args.session.now)) l.invariant.shown
          (drop_more script l.order-index _ c.loop-order-test.true) c.in_ok-obey.ensures.marks
          c.in_ok-obey.ensures.place
          c.in_ok-obey.ensures.shown;
      leads = record {
        rows = c.in_ok-obey.ensures.leads.rows ∙ l.invariant.leads.rows;
        state = c.in_ok-obey.ensures.leads.state ∙ l.invariant.leads.state;
      };
      told = subst AreTold (sym c.in_ok-obey.ensures.place) (told_after _ l.marks place l.invariant.told);
      notes = c.in_ok-obey.ensures.notes;
    }
