use Rattle.std.proofs.Common.{ℕ, List, length, ap, arith}
use Rattle.std.proofs.lemmas.List.{length-set}
use Rattle.std.proofs.lemmas.Result.{err_from_is_err_and}
use Rattle.fz_list.proofs.Algebra.{AreFilled-more}
use Rattle.box_tree.specs.declared.cert.LeafLine.TheVariants.{Pairs}
use Rattle.error_bound.specs.Reaches.{parts_of}
use Rattle.cert_check.specs.Trees.{part_of}
use Rattle.cert_check.proofs.LeafLemmas.{IsBoundAt, HasPartFault-next, AreBounds-all, pair_is, has_pair_bound}
use Rattle.cert_check.proofs.leaves.pair_bounds.Goals as goal

pub returns-in_err-bounds-clause-fault : goal.returns-in_err-bounds-clause-fault
returns-in_err-bounds-clause-fault c =
    let p = err_from_is_err_and c.from_residual.result c.from_residual.ensures.1 in
    let b = c.args.table.now.table.now.block.now in
    let box = c.args.table.now.bytes.0.items in
    let pairs = c.args.pairs.now in
    let slice = c.as_slice-named.result.now in
    let same = c.as_slice-named.ensures.value in
    let f = c.in_err-bounds.field-0.0 in
    let count = ap (λ (ps : List (ℕ × ℕ)). length ps) same in
    let at = pair_is b (parts_of c.args.table.now) box pairs slice same c.loop-o.o c.loop-o-test.true in
    let fault = HasPartFault-next b (parts_of c.args.table.now) (part_of box (Pairs pairs)) c.loop-o.bounds c.loop-o.o
    c.loop-o.invariant.filled c.args.line _ f (omega (arith, c.loop-o-test.true, count, c.requires.pairs)) at
    c.in_err-bounds.ensures.fault in
    rw (p.1, p.2) fault

pub loop-o-preserved : goal.loop-o-preserved
loop-o-preserved c =
    let b = c.args.table.now.table.now.block.now in
    let box = c.args.table.now.bytes.0.items in
    let pairs = c.args.pairs.now in
    let slice = c.as_slice-named.result.now in
    let same = c.as_slice-named.ensures.value in
    let o = c.loop-o.o in
    let n = c.in_ok-bounds.field-0 in
    let i = c.loop-o.invariant in
    let names = ap (λ (ps : List (ℕ × ℕ)). length ps) same in
    let few = c.requires.table.table.valid.few_outputs in
    let count = i.count in
    record {
      count = omega (arith, length-set c.loop-o.bounds o n, count);
      filled = AreFilled-more (IsBoundAt b (parts_of c.args.table.now) (part_of box (Pairs pairs))) b.outputs c.loop-o.bounds o n
          (omega (arith, c.loop-o-test.true, names, c.requires.pairs, few, count)) i.filled
          (has_pair_bound b (parts_of c.args.table.now) box pairs slice same o c.loop-o-test.true n c.in_ok-bounds.ensures.holds
          c.in_ok-bounds.ensures.bound);
    }

pub returns-clause-bounds : goal.returns-clause-bounds
returns-clause-bounds c =
    let b = c.args.table.now.table.now.block.now in
    let pairs = c.args.pairs.now in
    let names = ap (λ (ps : List (ℕ × ℕ)). length ps) c.as_slice-named.ensures.value in
    AreBounds-all b (parts_of c.args.table.now) (part_of c.args.table.now.bytes.0.items (Pairs pairs))
    c.loop-o.bounds c.loop-o.o c.loop-o.invariant.filled
    (omega (arith, c.loop-o-test.false, names, c.requires.pairs))
