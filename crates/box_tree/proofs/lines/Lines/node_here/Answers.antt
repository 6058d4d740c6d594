use Rattle.std.proofs.Common.{◌<◌, ◌+◌, [], ◌∷◌, ap, arith}
use Rattle.box_tree.specs.{declared.cert.Node.Node, Trees.leaf_count}
use Rattle.box_tree.proofs.ReadLemmas.{is_early, is_bad, is_late, has_many_leaves, stands_before}
use Rattle.box_tree.proofs.Emptiness.{is_nothing, is_something}
use Rattle.box_tree.proofs.lines.Lines.node_here.Goals as goal
use Rattle.box_tree.proofs.lines.Lines.node_here.Goals.{in_default-via-in-Leaf+else-self-eq-MOST_LEAVES}
use Rattle.box_tree.proofs.lines.Lines.node_here.Goals.{in_default-via-in_default}

pub returns-then-self-eq0-clause-node : goal.returns-then-self-eq0-clause-node
returns-then-self-eq0-clause-node c = (is_nothing c.args.self.now.rest.now c.if-is_empty.ensures, c.if-self-eq0.true)

pub returns-else-self-eq0-clause-fault : goal.returns-else-self-eq0-clause-fault
returns-else-self-eq0-clause-fault c =
    λ format text nodes h. is_early format text nodes c.args.self.now h
    (is_nothing c.args.self.now.rest.now c.if-is_empty.ensures) c.if-self-eq0.false

pub returns-in-None-clause-fault : goal.returns-in-None-clause-fault
returns-in-None-clause-fault c =
    λ format text nodes h. is_bad format text nodes c.args.self.now h c.len.result c.len.ensures.value
    (is_something c.args.self.now.rest.now c.if-is_empty.ensures) c.in-None.ensures.node

pub returns-then-self-eq0-2-clause-fault : goal.returns-then-self-eq0-2-clause-fault
returns-then-self-eq0-2-clause-fault c = λ format text nodes h.
    is_late format text nodes c.args.self.now h c.len.result c.len.ensures.value c.in-Some.found.0
    c.in-Some.found.1.now c.in-Some.ensures.node.1 c.in-Some.ensures.node.0 c.if-self-eq0-2.true

pub returns-in-Leaf-clause-fault : goal.returns-in-Leaf-clause-fault
returns-in-Leaf-clause-fault c = λ format text nodes h.
    has_many_leaves format text nodes c.args.self.now h c.len.result c.len.ensures.value c.in-Some.found.0
    c.in-Leaf.field-0 c.in-Some.found.1.now c.in-Some.ensures.node.1 c.in-Some.ensures.node.0 c.in-Leaf.is
    c.if-self-eq0-2.false c.if-self-eq-MOST_LEAVES.true

pub returns-in_default-clause-node : goal.returns-in_default-clause-node
returns-in_default-clause-node c =
    let few : c.args.self.now.leaves + leaf_count (c.in-Some.found.0 ∷ []) < 4097 = elim c.in_default.branch [
      | in_default-via-in-Leaf+else-self-eq-MOST_LEAVES w ↦ omega
          (arith, ap (λ (n : Node). leaf_count (n ∷ [])) w.in-Leaf.is)
      | in_default-via-in_default w ↦ omega (arith, ap (λ (n : Node). leaf_count (n ∷ [])) w.in_default.is)
    ] in
    stands_before c.args.self.now c.len.result c.in-Some.found.0 c.in-Some.found.1.now c.len.ensures.value
    c.in-Some.ensures.node.0 c.in-Some.ensures.node.1 c.in-Some.ensures.shorter c.if-self-eq0-2.false few
