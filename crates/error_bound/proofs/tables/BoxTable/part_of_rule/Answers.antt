use Rattle.fz_list.proofs.Algebra.{some_at}
use Rattle.error_bound.proofs.{LeafLemmas.IsCandidate-part, LeafLemmas.IsCandidate-only, TightLemmas.IsCandidate-still}
use Rattle.error_bound.proofs.tables.BoxTable.part_of_rule.Goals as goal

pub returns-then-may_fire-clause-candidate : goal.returns-then-may_fire-clause-candidate
returns-then-may_fire-clause-candidate c some =
    let b = c.args.self.now.table.now.block.now in
    let r = some_at b.rules c.args.n c.requires.n in
    IsCandidate-part b c.args.self.now.bytes.0.items c.args.out c.args.n r.0 r.1 c.end_of_rule.result
    (c.end_of_rule.ensures r.0 r.1) c.part_of.result c.part_of.ensures.part
    (c.may_fire.ensures.concludes_it c.if-may_fire.true r.0 r.1) c.part_of.ensures.none some

pub returns-then-may_fire-clause-only : goal.returns-then-may_fire-clause-only
returns-then-may_fire-clause-only c =
    let b = c.args.self.now.table.now.block.now in
    let r = some_at b.rules c.args.n c.requires.n in
    IsCandidate-only b c.args.self.now.bytes.0.items c.args.out c.args.n r.0 r.1 c.end_of_rule.result
    (c.end_of_rule.ensures r.0 r.1) c.part_of.result c.part_of.ensures.part

pub returns-else-may_fire-clause-only : goal.returns-else-may_fire-clause-only
returns-else-may_fire-clause-only c k candidate =
    let r = some_at c.args.self.now.table.now.block.now.rules c.args.n c.requires.n in
    absurd (IsCandidate-still c.args.self.now.table.now.block.now c.args.self.now.bytes.0.items c.args.out c.args.n r.0 r.1
    (c.may_fire.ensures.still c.if-may_fire.false r.0 r.1) k candidate)

pub part_of-requires : goal.part_of-requires
part_of-requires c =
    let r = some_at c.args.self.now.table.now.block.now.rules c.args.n c.requires.n in
    (c.end_of_rule.ensures r.0 r.1).small
