use Rattle.std.proofs.Common.{◌≤◌, ◌+◌, arith}
use Rattle.fuzzy_meaning.specs.declared.block.Output.{Output}
use Rattle.error_bound.specs.{BestLeaves.of_leaf, BestLeaves.of_none, Bounds.IsBound}
use Rattle.error_bound.specs.Reaches.{parts_of}
use Rattle.error_certifier.proofs.HalveLemmas.{pair_of_best, at_place}
use Rattle.error_certifier.proofs.leaves.best_within.Goals as goal

pub returns-in_default-clause-bound : goal.returns-in_default-clause-bound
returns-in_default-clause-bound c = λ x e. of_none c.in_default.ensures

pub unreachable-requires : goal.unreachable-requires
unreachable-requires c =
    let b = c.args.table.now.table.now.block.now in
    let box = c.args.table.now.bytes.0.items in
    let o = c.args.place + 1 in
    let small : c.in-Some.leaf.k ≤ 255 = omega arith in
    let holds = (c.best_leaves_hold.ensures b box o c.in-Some.leaf small c.in-Some.ensures).0 in
    c.faulty_leaves_fail.ensures b box o c.in-Some.leaf c.in-Err.field-0 c.in-Err.ensures.fault holds

pub returns-in-Ok-clause-pair : goal.returns-in-Ok-clause-pair
returns-in-Ok-clause-pair c =
    let small : c.in-Some.leaf.k ≤ 255 = omega arith in
    pair_of_best c.args.table.now.table.now.block.now c.args.table.now.bytes.0.items (c.args.place + 1) c.in-Some.leaf c.requires.table.table.valid
    small c.in-Some.ensures

pub returns-in-Ok-2-clause-bound : goal.returns-in-Ok-2-clause-bound
returns-in-Ok-2-clause-bound c = λ x e.
    let b = c.args.table.now.table.now.block.now in
    let box = c.args.table.now.bytes.0.items in
    of_leaf c.in-Some.leaf c.in-Ok.bound c.in-Some.ensures
    (at_place b c.args.place x
    (λ (y : Output). IsBound b box (c.args.place + 1) y (parts_of c.args.table.now) c.in-Some.leaf c.in-Ok.bound) e
    c.in-Ok.ensures.bound)
