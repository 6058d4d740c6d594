use Rattle.std.proofs.Common.{◌∙◌, arith}
use Rattle.fz_list.proofs.Algebra.{some_at}
use Rattle.std.proofs.lemmas.List.{take_all}
use Rattle.error_bound.specs.Matters.{narrowed}
use Rattle.error_bound.proofs.MattersLemmas.{narrowed_more, narrowed_is, length-narrowed}
use Rattle.error_bound.proofs.tables.BoxTable.narrowed.Goals as goal

pub loop-k-preserved : goal.loop-k-preserved
loop-k-preserved c =
    let b = c.args.self.now.table.now.block.now in
    let box = c.args.self.now.bytes.0.items in
    let i = c.loop-k.invariant in
    let v = some_at box c.loop-k.k (omega (arith, c.loop-k-test.true, c.len-k-end.ensures.value)) in
    record {
      count = omega (arith, c.push.ensures.len, i.count);
      items = narrowed_more b box c.loop-k.k v.0 c.interval_that_matters.result c.loop-k.narrow.items
          c.push.new.self.items v.1 (c.interval_that_matters.ensures v.0 v.1) i.items c.push.ensures.items;
    }

pub returns-clause-narrowed : goal.returns-clause-narrowed
returns-clause-narrowed c =
    let b = c.args.self.now.table.now.block.now in
    let box = c.args.self.now.bytes.0.items in
    c.loop-k.invariant.items ∙ take_all c.loop-k.k (narrowed b box)
    (omega (arith, c.loop-k-test.false, c.len-k-end.ensures.value, length-narrowed b box 1 box))

pub returns-clause-bytes : goal.returns-clause-bytes
returns-clause-bytes c =
    let b = c.args.self.now.table.now.block.now in
    let box = c.args.self.now.bytes.0.items in
    narrowed_is b box c.loop-k.narrow.items
    (c.loop-k.invariant.items ∙ take_all c.loop-k.k (narrowed b box)
    (omega (arith, c.loop-k-test.false, c.len-k-end.ensures.value, length-narrowed b box 1 box)))
    c.requires.table.box_is
