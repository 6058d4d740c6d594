use Rattle.std.proofs.Common.{arith}
use Rattle.std.proofs.lemmas.List.Elements.{All-nil}
use Rattle.box_tree.proofs.LineLemmas.{IsSmall, at_first, next_of, next_is_small, goes_on, so_far_more, small_more}
use Rattle.box_tree.proofs.LineLemmas.{rest_ends, line_rest, digits_are}
use Rattle.box_tree.proofs.text.numbers_of.Goals as goal

pub loop-behind-init : goal.loop-behind-init
loop-behind-init c = rw c.new-numbers.ensures (record {
  few = omega arith;
  small = All-nil IsSmall;
  so_far = c.in_ok-rest.ensures;
  others = λ ns behind few small is. at_first c.args.word.now c.args.text.now c.in_ok-rest.rest.now ns behind
      c.in_ok-rest.ensures is;
})

pub returns-in_err-after : goal.returns-in_err-after
returns-in_err-after c = rw c.from_residual-in_err-after.ensures (λ ns behind few small is.
    let h = next_of ns behind c.loop-behind.numbers.items c.loop-behind.rest.now
    (c.loop-behind.invariant.others ns behind few small is) c.in_default.ensures in
    c.in_err-after.ensures _ h.rest_is)

pub returns-in_err-next : goal.returns-in_err-next
returns-in_err-next c = rw c.from_residual-in_err-next.ensures (λ ns behind few small is.
    let h = next_of ns behind c.loop-behind.numbers.items c.loop-behind.rest.now
    (c.loop-behind.invariant.others ns behind few small is) c.in_default.ensures in
    c.in_err-next.ensures h.next (line_rest h.more behind)
    (next_is_small ns behind c.loop-behind.numbers.items c.loop-behind.rest.now h small) (rest_ends h.more behind)
    (digits_are ns behind c.loop-behind.numbers.items c.loop-behind.rest.now c.in_ok-after.field-0.now h
    c.in_ok-after.ensures))

pub loop-behind-preserved : goal.loop-behind-preserved
loop-behind-preserved c = record {
  few = omega (arith, c.push.ensures.len, c.len.ensures);
  small = small_more c.loop-behind.numbers.items c.push.new.self.items c.in_ok-next.next c.loop-behind.invariant.small
      c.in_ok-next.ensures.0 c.push.ensures.items;
  so_far = so_far_more c.args.word.now c.args.text.now c.loop-behind.numbers.items c.loop-behind.rest.now
      c.in_ok-after.field-0.now c.in_ok-next.behind.now c.push.new.self.items c.in_ok-next.next
      c.loop-behind.invariant.so_far c.in_ok-after.ensures c.in_ok-next.ensures.2 c.push.ensures.items;
  others = λ ns behind few small is.
      let h = next_of ns behind c.loop-behind.numbers.items c.loop-behind.rest.now
      (c.loop-behind.invariant.others ns behind few small is) c.in_default.ensures in
      goes_on ns behind c.loop-behind.numbers.items c.loop-behind.rest.now c.in_ok-after.field-0.now
      c.in_ok-next.behind.now c.push.new.self.items c.in_ok-next.next h small
      c.in_ok-next.ensures.0 c.in_ok-next.ensures.1 c.in_ok-after.ensures c.in_ok-next.ensures.2 c.push.ensures.items;
}
