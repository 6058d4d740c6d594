use Rattle.std.proofs.{lemmas.List.nil_from_length, Common.sym, Common.◌∙◌}
use Rattle.cert_check.proofs.WalkLemmas.{next_box, split_behind, split_fault, line_is_good, leaf_behind, fault_met}
use Rattle.cert_check.proofs.WalkLemmas.{none_popped}
use Rattle.cert_check.proofs.walk.Walk.visit.Goals as goal

pub returns-in_default-clause-behind : goal.returns-in_default-clause-behind
returns-in_default-clause-behind c = λ nodes behind first.
    absurd (none_popped c.args.self.now nodes c.args.node.now c.open_boxes_go_on.ensures
    (nil_from_length c.args.self.now.boxes.items (sym c.args.self.now.boxes.ok.0 ∙ c.in_default.ensures.cases.0))
    behind first)

pub push_halves-requires-clause-bytes : goal.push_halves-requires-clause-bytes
push_halves-requires-clause-bytes c =
    (next_box c.args.self.now c.in-Some.bytes c.pop.new.self c.in-Some.ensures.items c.requires.0
    c.requires.2).intervals

pub raise_errors-requires-clause-bytes : goal.raise_errors-requires-clause-bytes
raise_errors-requires-clause-bytes c =
    next_box c.args.self.now c.in-Some.bytes c.pop.new.self c.in-Some.ensures.items c.requires.0 c.requires.2

pub raise_errors-requires-clause-stated : goal.raise_errors-requires-clause-stated
raise_errors-requires-clause-stated c =
    line_is_good c.args.self.now c.in-Some.bytes c.pop.new.self c.in-Some.ensures.items c.in-Leaf.stated c.args.node.now
    c.in-Leaf.is c.requires.0 c.requires.2 c.requires.3

pub returns-in-Split-clause-behind : goal.returns-in-Split-clause-behind
returns-in-Split-clause-behind c =
    split_behind c.args.self.now c.in-Some.bytes c.pop.new.self c.in-Some.ensures.items c.in-Split.input c.in-Split.cut
    c.args.node.now c.in-Split.is c.push_halves.new.boxes c.push_halves.result c.open_boxes_go_on.ensures
    c.push_halves.ensures.cut c.push_halves.ensures.boxes c.push_halves.ensures.room

pub returns-in-Split-clause-fault : goal.returns-in-Split-clause-fault
returns-in-Split-clause-fault c =
    split_fault c.args.self.now c.in-Some.bytes c.pop.new.self c.in-Some.ensures.items c.in-Split.input c.in-Split.cut
    c.args.node.now c.in-Split.is c.push_halves.result c.push_halves.ensures.fault

pub returns-in-Leaf-clause-behind : goal.returns-in-Leaf-clause-behind
returns-in-Leaf-clause-behind c =
    leaf_behind c.args.self.now c.in-Some.bytes c.pop.new.self c.in-Some.ensures.items c.in-Leaf.stated c.args.node.now
    c.in-Leaf.is _ c.raise_errors.new.errors c.raise_errors.result c.open_boxes_go_on.ensures c.deref_mut.ensures.value
    c.raise_errors.ensures.raised c.pop.ensures.capacity

pub returns-in-Leaf-clause-fault : goal.returns-in-Leaf-clause-fault
returns-in-Leaf-clause-fault c =
    fault_met c.args.self.now c.in-Some.bytes c.pop.new.self c.in-Some.ensures.items c.in-Leaf.stated c.args.node.now
    c.in-Leaf.is c.raise_errors.result c.raise_errors.ensures.fault
