use Rattle.std.proofs.Common.{rules, arith}
use Rattle.std.proofs.lemmas.Result.{err_from_is_err_and}
use Rattle.error_certifier.proofs.HalveLemmas.{split-place, Grows-leaf, Stops-leaf, left_half, right_half}
use Rattle.error_certifier.proofs.HalveLemmas.{Stops-left, Grows-halves, Stops-right}
use Rattle.error_certifier.proofs.halving.Task.+halve.Goals as goal

pub returns-in-Ok-Leaf-clause-grows : goal.returns-in-Ok-Leaf-clause-grows
returns-in-Ok-Leaf-clause-grows t c =
    let e = c.push_leaf.ensures in
    let found = rw c.in-Ok-Leaf.field-0-is at c.in-Ok-Leaf.ensures.piece in
    Grows-leaf found c.args.tree.now c.push_leaf.new.self c.push_leaf.result
    c.requires.tree e.nodes e.errors e.leaves e.few

pub returns-in-Ok-Leaf-clause-stops : goal.returns-in-Ok-Leaf-clause-stops
returns-in-Ok-Leaf-clause-stops t c =
    let found = rw c.in-Ok-Leaf.field-0-is at c.in-Ok-Leaf.ensures.piece in
    Stops-leaf found c.push_leaf.result _ c.push_leaf.ensures.limit

pub overflow_cast-place : goal.overflow_cast-place
overflow_cast-place t c =
    let few = split-place (rw c.in-Ok-Cut.field-0-is at c.in-Ok-Cut.ensures.piece) c.requires.task.table.valid
    c.requires.bytes in
    omega arith

pub overflow_add-place : goal.overflow_add-place
overflow_add-place t c =
    let few = split-place (rw c.in-Ok-Cut.field-0-is at c.in-Ok-Cut.ensures.piece) c.requires.task.table.valid
    c.requires.bytes in
    omega arith

pub halve-requires : goal.halve-requires
halve-requires t c =
    let large = rw c.in-Ok-Cut.field-0-is at c.in-Ok-Cut.ensures.piece in
    let left = left_half c.requires.bytes large c.middle-cut.ensures.middle
    c.cuts_have_halves.ensures _ c.halves-left.ensures.left in
    let r = c.requires.tree in (
      omega (arith, c.decreases, left.0),
      (c.requires.task, (left.1, (c.found.ensures.table, record { errors = r.errors; leaves = r.leaves }))),
    )

pub returns-in_err-halve-clause-stops : goal.returns-in_err-halve-clause-stops
returns-in_err-halve-clause-stops t c =
    let large = rw c.in-Ok-Cut.field-0-is at c.in-Ok-Cut.ensures.piece in
    let p = err_from_is_err_and c.from_residual.result c.from_residual.ensures.1 in
    rw (p.1, p.2) (λ found. Stops-left c.requires.bytes large
    c.middle-cut.ensures.middle c.halves-left.ensures.left (c.in_err-halve.ensures.stops found))

pub halve-requires-2 : goal.halve-requires-2
halve-requires-2 t c =
    let large = rw c.in-Ok-Cut.field-0-is at c.in-Ok-Cut.ensures.piece in
    let right = right_half c.requires.bytes large c.middle-cut.ensures.middle
    c.cuts_have_halves.ensures _ c.halves-left.ensures.right in (
      omega (arith, c.decreases, right.0),
      (c.requires.task, (right.1, (c.halve.ensures.table, c.in_ok-halve.ensures.tree))),
    )

pub returns-clause-grows : goal.returns-clause-grows
returns-clause-grows t c =
    let large = rw c.in-Ok-Cut.field-0-is at c.in-Ok-Cut.ensures.piece in
    Grows-halves c.requires.bytes large c.middle-cut.ensures.middle
    c.halves-left.ensures.left c.halves-left.ensures.right c.args.tree.now c.halve.new.tree
    c.push.new.self c.in_ok-halve.ensures.grows c.halve-2.new.tree c.halve-2.result c.cuts_have_halves.ensures
    c.requires.task.table.valid (search rules) c.halve-2.ensures.grows

pub returns-clause-stops : goal.returns-clause-stops
returns-clause-stops t c =
    let large = rw c.in-Ok-Cut.field-0-is at c.in-Ok-Cut.ensures.piece in
    Stops-right c.requires.bytes large c.middle-cut.ensures.middle
    c.halves-left.ensures.left c.halves-left.ensures.right c.args.tree.now c.halve.new.tree
    c.push.new.self c.in_ok-halve.ensures.grows c.halve-2.result c.halve-2.ensures.stops
