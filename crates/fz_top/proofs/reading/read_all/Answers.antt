use Rattle.std.proofs.Common.{◌≡◌, Err, ◌∙◌, rules}
use Rattle.fz_top.specs.declared.reading.Stop.TheVariants as stop
use Rattle.fz_top.proofs.ReadLemmas.{read_more, stops_behind, stops_later, there_later, held_small}
use Rattle.fz_top.proofs.reading.read_all.Goals as goal

pub returns-in_err-read_one-clause-stops : goal.returns-in_err-read_one-clause-stops
returns-in_err-read_one-clause-stops g c =
    let passed : c.from_residual.result ≡ Err c.in_err-read_one.field-0.0 = search rules in
    rw passed (stops_later _ (g.S.Shelf.told c.read_one.new.shelf) c.loop-place.place-index _ c.loop-place-test.true
    c.loop-place.invariant.whole c.loop-place.invariant.files _ c.in_err-read_one.ensures.stops)

pub returns-in_err-read_one-clause-steady : goal.returns-in_err-read_one-clause-steady
returns-in_err-read_one-clause-steady g c = λ reliable there.
    let passed : c.from_residual.result ≡ Err c.in_err-read_one.field-0.0 = search rules in
    rw passed (c.in_err-read_one.ensures.steady (c.loop-place.invariant.reliable reliable)
    (there_later _ _ _ _ c.loop-place.place-index _ c.loop-place-test.true c.loop-place.invariant.files there))

pub returns-in_err-push-clause-stops : goal.returns-in_err-push-clause-stops
returns-in_err-push-clause-stops g c =
    let passed : c.from_residual-in_err-push.result ≡ Err stop.Memory = search rules in
    rw passed (stops_behind _ _ c.loop-place.place-index _ c.loop-place-test.true c.loop-place.invariant.whole
    c.loop-place.invariant.files _ c.in_ok-read_one.ensures.whole)

pub loop-place-preserved : goal.loop-place-preserved
loop-place-preserved g c =
    record {
      files = c.in_ok-read_one.ensures.files ∙ c.loop-place.invariant.files;
      whole = read_more _ c.loop-place.place-index _ c.loop-place-test.true _ _ _ c.loop-place.invariant.whole
          c.loop-place.invariant.files c.in_ok-read_one.ensures.whole c.in_ok-push.ensures.items;
      reliable = λ s. c.in_ok-read_one.ensures.reliable (c.loop-place.invariant.reliable s);
    }

pub returns-clause-small : goal.returns-clause-small
returns-clause-small g c = held_small _ _ _ c.loop-place.invariant.whole.held
