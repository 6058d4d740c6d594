use Rattle.std.proofs.Common.{◌≡◌, ◌∙◌, None, Some, arith, length, lit<, refl, rules}
use Rattle.std.proofs.lemmas.{Iterator.Consumers.YieldsList-at, Iterator.Consumers.YieldsList-end}
use Rattle.std.proofs.lemmas.{Iterator.Consumers.YieldsList-turn, Iterator.Splits.YieldsList-from_str_split}
use Rattle.std.proofs.lemmas.List.{length_push}
use Rattle.std.proofs.lemmas.{Bool.Decides.nat_tests, Grind.common_steps}
use Rattle.command_parts.specs.Words.{number_of}
use Rattle.command_parts.proofs.NumberLemmas.{all_numbers, many_numbers, no_numbers, number_more}
use Rattle.command_parts.proofs.words.numbers_in.Goals as goal

pub returns-in_err-number_in-clause-value : goal.returns-in_err-number_in-clause-value
returns-in_err-number_in-clause-value c =
    let split = c.split-part-items.ensures in
    let parts = YieldsList-at (c.into_iter-part-iterator.ensures.into_iter_gives ∙ refl)
    (YieldsList-from_str_split 44 c.args.text.now (lit< tt) split.text split.has_more split.pattern) in
    let turn = YieldsList-turn parts c.loop-part.yielded _ c.loop-part.yielded_by _ _ c.in-Some.part c.in-Some.is
    c.next.ensures.steps in
    let part : number_of c.in-Some.part.now ≡ None = grind (arith, common_steps) in
    let none = no_numbers 4 c.args.text.now c.loop-part.numbers.items _ c.in-Some.part.now
    c.loop-part.invariant.first turn part in
    let gives : c.from_residual.result ≡ None = search rules in
    rw gives none

pub returns-then-is_full-clause-value : goal.returns-then-is_full-clause-value
returns-then-is_full-clause-value c =
    let split = c.split-part-items.ensures in
    let parts = YieldsList-at (c.into_iter-part-iterator.ensures.into_iter_gives ∙ refl)
    (YieldsList-from_str_split 44 c.args.text.now (lit< tt) split.text split.has_more split.pattern) in
    let turn = YieldsList-turn parts c.loop-part.yielded _ c.loop-part.yielded_by _ _ c.in-Some.part c.in-Some.is
    c.next.ensures.steps in
    let full : length c.loop-part.numbers.items ≡ 4 = grind (arith, nat_tests) in
    many_numbers 4 c.args.text.now (omega (arith, turn.0, c.loop-part.invariant.count, full))

pub loop-part-preserved : goal.loop-part-preserved
loop-part-preserved c =
    let split = c.split-part-items.ensures in
    let parts = YieldsList-at (c.into_iter-part-iterator.ensures.into_iter_gives ∙ refl)
    (YieldsList-from_str_split 44 c.args.text.now (lit< tt) split.text split.has_more split.pattern) in
    let turn = YieldsList-turn parts c.loop-part.yielded _ c.loop-part.yielded_by _ _ c.in-Some.part c.in-Some.is
    c.next.ensures.steps in
    let part : number_of c.in-Some.part.now ≡ Some c.get-number.result = grind (arith, common_steps) in
    let more = number_more c.args.text.now c.loop-part.numbers.items _ c.in-Some.part.now c.get-number.result
    c.loop-part.invariant.first turn part in
    let one = length_push c.loop-part.yielded c.in-Some.part in
    record {
      first = rw (c.push.ensures.items, one) more;
      count = omega (arith, c.push.ensures.len, one, c.loop-part.invariant.count);
      room = grind (arith, common_steps);
      millionths = grind (arith, common_steps);
    }

pub returns-clause-value : goal.returns-clause-value
returns-clause-value c =
    let split = c.split-part-items.ensures in
    let parts = YieldsList-at (c.into_iter-part-iterator.ensures.into_iter_gives ∙ refl)
    (YieldsList-from_str_split 44 c.args.text.now (lit< tt) split.text split.has_more split.pattern) in
    let end = YieldsList-end parts c.loop-part.yielded _ c.loop-part.yielded_by _ _ c.in-None.is c.next.ensures.steps in
    all_numbers 4 c.args.text.now c.loop-part.numbers.items _ c.loop-part.invariant.first end.1
    (omega (arith, c.loop-part.invariant.count, c.loop-part.invariant.room))
