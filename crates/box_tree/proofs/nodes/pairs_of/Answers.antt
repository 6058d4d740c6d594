use Rattle.std.proofs.Common.{◌≡◌, true, false, ap, arith, length, refl}
use Rattle.box_tree.proofs.PairLemmas.{length-pair_numbers, pair_there, pairs_more, pairs_so_far}
use Rattle.box_tree.proofs.nodes.pairs_of.Goals as goal

pub returns-then-numbers-width : goal.returns-then-numbers-width
returns-then-numbers-width c =
    λ pairs count all same. c.if-numbers-width.true (omega (arith, ap length same, length-pair_numbers pairs))

pub returns-then-not-is_pair : goal.returns-then-not-is_pair
returns-then-not-is_pair c = λ pairs count all same.
    let bad : false ≡ true =
    c.if-not-is_pair.ensures.1
    (pair_there c.args.numbers.now pairs c.loop-i.i _ _ same all (omega arith) refl refl) in cc

pub loop-i-preserved : goal.loop-i-preserved
loop-i-preserved c = record {
  count = omega (arith, c.push.ensures.len);
  pairs = pairs_more c.loop-i.pairs.items c.push.new.self.items _ _ c.loop-i.invariant.pairs
      (c.if-not-is_pair.ensures.0 refl) c.push.ensures.items;
  so_far = pairs_so_far c.args.numbers.now c.loop-i.pairs.items c.push.new.self.items c.loop-i.i _ _
      (omega arith) c.loop-i.invariant.so_far refl refl c.push.ensures.items;
}
