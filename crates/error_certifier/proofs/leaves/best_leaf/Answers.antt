use Rattle.std.proofs.{Common.ℕ, Common.List, Common.arith, Common.subst, Common.sym, lemmas.Option.slice_get_within}
use Rattle.std.proofs.lemmas.List.{length-set}
use Rattle.std.specs.Prelude.{All}
use Rattle.box_tree.specs.Certificates.{IsPair}
use Rattle.error_bound.specs.Reaches.{parts_of}
use Rattle.error_certifier.proofs.HalveLemmas.{pairs_more, above_behind, pair_good, named_found}
use Rattle.error_certifier.proofs.leaves.best_leaf.Goals as goal

pub returns-in-Err-clause-above : goal.returns-in-Err-clause-above
returns-in-Err-clause-above c =
    let i = c.loop-o.invariant in
    above_behind c.args.table.now.table.now.block.now (parts_of c.args.table.now) c.args.targets.now c.args.table.now.bytes.0.items c.loop-o.pairs.items
    c.loop-o.bounds c.loop-o.o
    c.in-Err.bound
    (omega (arith, c.loop-o-test.true, c.len-o-end.ensures)) i.each c.in-Err.ensures.above c.in-Err.ensures.bound

pub loop-o-preserved : goal.loop-o-preserved
loop-o-preserved c =
    let i = c.loop-o.invariant in
    let p : ℕ × ℕ = (c.in-Ok.leaf.rule, c.in-Ok.leaf.k) in
    let few = c.requires.table.table.valid.few_outputs in
    record {
      count = omega (arith, c.push.ensures.len, i.count);
      places = omega (arith, length-set c.loop-o.bounds c.loop-o.o c.in-Ok.bound, i.places);
      each = pairs_more c.args.table.now.table.now.block.now (parts_of c.args.table.now) c.args.targets.now c.args.table.now.bytes.0.items c.loop-o.pairs.items
          c.push.new.self.items c.loop-o.bounds p c.in-Ok.bound c.loop-o.o c.push.ensures.items i.places
          (omega (arith, c.loop-o-test.true, c.len-o-end.ensures, few)) i.count i.each c.in-Ok.ensures.within;
      good = subst (λ (xs : List (ℕ × ℕ)). All IsPair xs) (sym c.push.ensures.items)
          (pair_good c.loop-o.pairs.items p i.good c.in-Ok.ensures.pair);
    }

pub returns-clause-leaf : goal.returns-clause-leaf
returns-clause-leaf c =
    let i = c.loop-o.invariant in
    named_found c.best_leaves_hold.ensures c.args.table.now.table.now.block.now (parts_of c.args.table.now) c.args.targets.now c.args.table.now.bytes.0.items
    c.loop-o.pairs c.loop-o.bounds
    (record {
      count = omega (arith, i.count, c.loop-o-test.false, c.loop-o.auto.o-end, c.len-o-end.ensures);
      each = λ k x e.
          let inside = slice_get_within c.args.table.now.table.now.block.now.outputs k x e in
          i.each k x (omega (arith, inside, c.loop-o-test.false, c.len-o-end.ensures)) e;
      good = i.good;
    })
