use Rattle.std.proofs.Common.{◌≡◌, ℕ, ◌+◌, ◌≤◌, List, length, take, sym, subst, ◌∙◌, arith}
use Rattle.std.specs.Prelude.{All, slice_index}
use Rattle.fz_num.specs.Decimals.{distance}
use Rattle.fuzzy_meaning.specs.{declared.block.Output.Output, declared.block.Block.Block}
use Rattle.cell_error.specs.{declared.ranges.MassRange.MassRange, Errors.IsRange}
use Rattle.error_bound.specs.{declared.boxes.Interval.Interval, declared.tight.Masses.Masses}
use Rattle.error_bound.specs.{Tight.ranges_at, MassRanges.ranges, Tight.low_of, Tight.high_of, Masses.AreMasses}
use Rattle.error_bound.specs.Reaches.{parts_of}
use Rattle.cell_bounds.proofs.CellLemmas.{answer_point, none_point, ranges_same, ranges_ok, masses_are, unfinished}
use Rattle.cell_bounds.proofs.CellLemmas.{unanswered}
use Rattle.cell_bounds.proofs.masses.cell_masses.Goals as goal

ranges_are : (b : Block) (box : List Interval) (o : ℕ) (x : Output) (m : Masses) (ts : List MassRange)
    → AreMasses b box o m → 0 + length x.singletons ≤ 15
    → ts ≡ ranges_at (slice_index m.lows) (slice_index m.highs) x.lo 0 x.singletons → ts ≡ ranges b box o x
ranges_are b box o x m ts ms few e =
    e
    ∙ ranges_same (slice_index m.lows) (λ k. low_of b box o (k + 1)) (slice_index m.highs)
    (λ k. high_of b box o (k + 1)) x.lo ms.lows.each ms.highs.each 0 x.singletons few

pub with_rest-requires-clause-terms : goal.with_rest-requires-clause-terms
with_rest-requires-clause-terms c =
    let x = c.output_of-output.result.now in
    let v = c.output_of-output.ensures.valid in
    let m = c.args.masses.now in
    let ms = c.requires.masses in
    let ok = ranges_ok (slice_index m.lows) (slice_index m.highs) x.lo x.hi v.range ms.lows.small ms.highs.small
    c.requires.ordered 0 x.singletons (omega (arith, v.few_terms)) v.singletons in
    subst (All (IsRange (distance x.lo x.hi))) (sym c.ranges_of-ranges.ensures) ok

pub returns-in-Some : goal.returns-in-Some
returns-in-Some c =
    let b = c.args.table.now.table.now.block.now in
    let box = c.args.table.now.bytes.0.items in
    let x = c.output_of-output.result.now in
    let found = c.output_of-output.ensures.found in
    let few = c.output_of-output.ensures.valid.few_terms in
    let ms = c.requires.masses in
    let ts : List MassRange = take (length x.singletons) c.ranges_of-ranges.result in
    let same = ranges_are b box c.args.out x c.args.masses.now ts ms (omega (arith, few)) c.ranges_of-ranges.ensures in
    let e = c.with_rest.ensures in
    record {
      masses = masses_are b box c.args.out x (parts_of c.args.table.now) c.in-Some.value ts c.with_rest.result found
          (λ bytes before inside.
          answer_point b box bytes c.requires.table.box_is.count c.requires.cell inside c.args.out x
          (slice_index c.args.masses.now.byte_highs) ms.byte_highs.each (parts_of c.args.table.now) before found few
          ∙ c.in-Some.ensures.some before)
          same e.answer e.terms e.rest e.sure;
      fit = e.fit;
      none = unfinished b box c.args.out x ts c.with_rest.result found same e.nc e.none;
    }

pub returns-in-None : goal.returns-in-None
returns-in-None c =
    let x = c.output_of-output.result.now in
    record {
      masses = tt;
      fit = tt;
      none = unanswered c.args.table.now.table.now.block.now c.args.table.now.bytes.0.items c.args.out x c.output_of-output.ensures.found
          c.in-None.ensures.nc (λ bytes inside.
          none_point c.args.table.now.table.now.block.now c.args.table.now.bytes.0.items bytes c.requires.table.box_is.count c.requires.cell
          inside c.args.out x (slice_index c.args.masses.now.byte_highs) c.requires.masses.byte_highs.each
          c.output_of-output.ensures.valid.few_terms c.in-None.ensures.none);
    }
