use Rattle.std.proofs.Common.{◌+◌, refl, arith}
use Rattle.std.proofs.lemmas.List.{length-set}
use Rattle.fz_list.proofs.Algebra.{AreFilled-more}
use Rattle.box_tree.specs.declared.cert.LeafLine.TheVariants as leaf_line
use Rattle.cell_bounds.specs.declared.claims.Claim.TheVariants.{Tight}
use Rattle.error_bound.specs.Reaches.{parts_of}
use Rattle.cert_check.specs.declared.checker.CheckFault.TheVariants as told
use Rattle.cert_check.specs.{Trees.part_of}
use Rattle.cert_check.proofs.LeafLemmas.{IsBoundAt, HasPartFault-next, AreBounds-all, has_tight_bound, tight_fault}
use Rattle.cert_check.proofs.leaves.tight_bounds.Goals as goal

pub returns-in-None-clause-fault : goal.returns-in-None-clause-fault
returns-in-None-clause-fault c =
    let b = c.args.table.now.table.now.block.now in
    let box = c.args.table.now.bytes.0.items in
    let o = c.loop-o.o in
    let none = c.in-None.ensures in
    let f = told.Unsure c.args.line (o + 1) in
    HasPartFault-next b (parts_of c.args.table.now) (part_of box leaf_line.Tight) c.loop-o.bounds o c.loop-o.invariant.filled
    c.args.line Tight f (omega (arith, c.loop-o-test.true, c.len-o-end.ensures)) refl
    (tight_fault b (parts_of c.args.table.now) box (o + 1) c.args.line none.loud none.unsure)

pub loop-o-preserved : goal.loop-o-preserved
loop-o-preserved c =
    let b = c.args.table.now.table.now.block.now in
    let box = c.args.table.now.bytes.0.items in
    let o = c.loop-o.o in
    let i = c.loop-o.invariant in
    let few = c.requires.table.valid.few_outputs in
    let to = c.loop-o-test.true in
    let count = i.count in
    record {
      count = omega (arith, length-set c.loop-o.bounds o c.in-Some.bound, count);
      filled = AreFilled-more (IsBoundAt b (parts_of c.args.table.now) (part_of box leaf_line.Tight)) b.outputs c.loop-o.bounds o
          c.in-Some.bound (omega (arith, to, c.len-o-end.ensures, few, count)) i.filled
          (has_tight_bound b (parts_of c.args.table.now) box o c.in-Some.bound c.in-Some.ensures.bound);
    }

pub returns-clause-bounds : goal.returns-clause-bounds
returns-clause-bounds c =
    let b = c.args.table.now.table.now.block.now in
    AreBounds-all b (parts_of c.args.table.now) (part_of c.args.table.now.bytes.0.items leaf_line.Tight) c.loop-o.bounds
    c.loop-o.o c.loop-o.invariant.filled (omega (arith, c.loop-o-test.false, c.len-o-end.ensures))
