use Rattle.std.proofs.Common.{◌≡◌, [], ◌∷◌, Some, sym, ap, ◌∙◌, arith}
use Rattle.box_tree.specs.{declared.cert.Node.Node, declared.lines.Lines.Lines, Trees.leaf_count, Trees.open_from}
use Rattle.box_tree.proofs.{ReadLemmas.has_read_more, TreeLemmas.open_leaf, TreeLemmas.open_split}
use Rattle.box_tree.proofs.lines.Lines.next.Goals as goal
use Rattle.box_tree.proofs.lines.Lines.next.Goals.{in-Split, in-Leaf}

pub returns-after-node-clause-node : goal.returns-after-node-clause-node
returns-after-node-clause-node c = λ format text nodes h.
    let old = c.args.self.now in
    let node = c.in-Ok-Some.node in
    let stands = rw c.in-Ok-Some.field-0-is at c.in-Ok-Some.ensures.node in
    elim c.match-node.branch [
      | in-Split w ↦
          let left : open_from old.open_boxes (node ∷ []) ≡ Some c.match-node.self.open_boxes =
          ap (λ (n : Node). open_from old.open_boxes (n ∷ [])) w.in-Split.is
          ∙ open_split old.open_boxes w.in-Split.field-0 w.in-Split.field-1 stands.box_open
          ∙ ap (λ (l : Lines). Some l.open_boxes) (sym w.self-is) in
          let none : leaf_count (node ∷ []) ≡ 0 = ap (λ (n : Node). leaf_count (n ∷ [])) w.in-Split.is in
          has_read_more format text nodes old c.match-node.self node c.in-Ok-Some.behind.now h stands
          (ap (λ (l : Lines). l.kind) w.self-is) (ap (λ (l : Lines). l.claims) w.self-is)
          (ap (λ (l : Lines). l.rest.now) w.self-is) (ap (λ (l : Lines). l.read) w.self-is) left
          (omega (arith, ap (λ (l : Lines). l.leaves) w.self-is, none))
          (ap (λ (l : Lines). l.fault) w.self-is ∙ h.no_fault)
      | in-Leaf w ↦
          let left : open_from old.open_boxes (node ∷ []) ≡ Some c.match-node.self.open_boxes =
          ap (λ (n : Node). open_from old.open_boxes (n ∷ [])) w.in-Leaf.is
          ∙ open_leaf old.open_boxes w.in-Leaf.field-0 stands.box_open
          ∙ ap (λ (l : Lines). Some l.open_boxes) (sym w.self-is) in
          let one : leaf_count (node ∷ []) ≡ 1 = ap (λ (n : Node). leaf_count (n ∷ [])) w.in-Leaf.is in
          has_read_more format text nodes old c.match-node.self node c.in-Ok-Some.behind.now h stands
          (ap (λ (l : Lines). l.kind) w.self-is) (ap (λ (l : Lines). l.claims) w.self-is)
          (ap (λ (l : Lines). l.rest.now) w.self-is) (ap (λ (l : Lines). l.read) w.self-is) left
          (omega (arith, ap (λ (l : Lines). l.leaves) w.self-is, one))
          (ap (λ (l : Lines). l.fault) w.self-is ∙ h.no_fault)
    ]
