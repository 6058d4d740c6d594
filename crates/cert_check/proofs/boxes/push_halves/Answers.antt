use Rattle.std.proofs.Common.{◌-◌, ◌∷◌, List, ap, ap₂, arith, ◌∙◌}
use Rattle.error_bound.specs.declared.boxes.Interval.{Interval}
use Rattle.cert_check.proofs.TreeLemmas.{cut_inside}
use Rattle.cert_check.proofs.WalkLemmas.{few_below, stack-length}
use Rattle.cert_check.specs.{Walks.stack_of}
use Rattle.cert_check.proofs.boxes.push_halves.Goals as goal

pub halves-left-requires-clause-above : goal.halves-left-requires-clause-above
halves-left-requires-clause-above c =
    let i = c.in-Some.ensures.inside in
    (cut_inside (c.args.input - 1) c.args.cut c.args.bytes.0.items c.in-Some.interval i.1 i.0).0

pub halves-left-requires-clause-below : goal.halves-left-requires-clause-below
halves-left-requires-clause-below c =
    let i = c.in-Some.ensures.inside in
    (cut_inside (c.args.input - 1) c.args.cut c.args.bytes.0.items c.in-Some.interval i.1 i.0).1

pub push-requires : goal.push-requires
push-requires c =
    let old = c.args.boxes.now in
    let few = few_below c.args.bytes.0.items (stack_of old.items) (c.args.input - 1) c.args.cut c.requires.cut_out
    c.in-Some.ensures.inside.0 in
    omega (arith, few, stack-length old.items, old.ok.0, c.requires.room)

pub push-requires-in-Some : goal.push-requires-in-Some
push-requires-in-Some c =
    let old = c.args.boxes.now in
    let few = few_below c.args.bytes.0.items (stack_of old.items) (c.args.input - 1) c.args.cut c.requires.cut_out
    c.in-Some.ensures.inside.0 in
    omega (arith, few, stack-length old.items, old.ok.0, c.requires.room, c.push.ensures.len, c.push.ensures.room)

pub returns-in-Some-clause-boxes : goal.returns-in-Some-clause-boxes
returns-in-Some-clause-boxes c =
    c.push-in-Some.ensures.boxes ∙ ap₂ (λ (x : List Interval) (xs : List (List Interval)). x ∷ xs)
    c.halves-left.ensures.left
    (c.push.ensures.boxes ∙ ap (λ (x : List Interval). x ∷ stack_of c.args.boxes.now.items) c.halves-left.ensures.right)
