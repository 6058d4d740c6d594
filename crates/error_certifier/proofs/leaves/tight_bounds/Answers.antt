use Rattle.std.proofs.{lemmas.List.length-set, Common.◌+◌, Common.arith}
use Rattle.fz_list.proofs.Algebra.{AreFilled-more}
use Rattle.fuzzy_meaning.specs.declared.block.Output.{Output}
use Rattle.error_bound.specs.Tight.{IsTightBound}
use Rattle.error_bound.specs.Reaches.{parts_of}
use Rattle.error_certifier.proofs.HalveLemmas.{IsTightAt, at_place, tight_above, tight_all}
use Rattle.error_certifier.proofs.leaves.tight_bounds.Goals as goal

pub returns-in-Err-clause-above : goal.returns-in-Err-clause-above
returns-in-Err-clause-above c =
    tight_above c.args.table.now.table.now.block.now (parts_of c.args.table.now) c.args.targets.now c.args.table.now.bytes.0.items c.loop-o.bounds c.loop-o.o
    c.loop-o.invariant.filled c.in-Err.bound (omega (arith, c.loop-o-test.true, c.len-o-end.ensures))
    c.in-Err.ensures.above c.in-Err.ensures.count

pub loop-o-preserved : goal.loop-o-preserved
loop-o-preserved c =
    let b = c.args.table.now.table.now.block.now in
    let box = c.args.table.now.bytes.0.items in
    let o = c.loop-o.o in
    let n = c.in-Ok.bound in
    let i = c.loop-o.invariant in
    let few = c.requires.table.table.valid.few_outputs in
    record {
      places = omega (arith, length-set c.loop-o.bounds o n, i.places);
      filled = AreFilled-more (IsTightAt b (parts_of c.args.table.now) c.args.targets.now box) b.outputs c.loop-o.bounds o n
          (omega (arith, c.loop-o-test.true, c.len-o-end.ensures, few, i.places)) i.filled
          (λ x e. (
            at_place b o x (λ (y : Output). IsTightBound b box (o + 1) y (parts_of c.args.table.now) n) e c.in-Ok.ensures.bound,
            c.in-Ok.ensures.within,
          ));
    }

pub returns-clause-bounds : goal.returns-clause-bounds
returns-clause-bounds c =
    tight_all c.args.table.now.table.now.block.now (parts_of c.args.table.now) c.args.targets.now c.args.table.now.bytes.0.items c.loop-o.bounds c.loop-o.o
    c.loop-o.invariant.filled (omega (arith, c.loop-o-test.false, c.len-o-end.ensures))
