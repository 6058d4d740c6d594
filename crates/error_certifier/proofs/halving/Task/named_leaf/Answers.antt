use Rattle.std.proofs.Common.{ℕ, List, subst}
use Rattle.box_tree.specs.declared.cert.CertKind.TheVariants.{Named}
use Rattle.error_bound.specs.Reaches.{parts_of}
use Rattle.error_certifier.specs.Halving.{IsFirstAbove}
use Rattle.error_certifier.proofs.HalveLemmas.{named_stuck, named_split}
use Rattle.error_certifier.proofs.halving.Task.named_leaf.Goals as goal

pub returns-then-interval-clause-stuck : goal.returns-then-interval-clause-stuck
returns-then-interval-clause-stuck c = λ n.
    let w = c.args.self.now in
    let a = c.in-Err.above in
    named_stuck c.requires.table.box_is c.widest-place.ensures c.if-interval.true n c.low_bytes.result
    c.low_bytes.ensures
    (subst (λ (ts : List ℕ). IsFirstAbove Named c.args.table.now.table.now.block.now (parts_of c.args.table.now) ts c.args.table.now.bytes.0.items a.place a.bound)
    c.as_slice.ensures.value c.in-Err.ensures.above)

pub returns-else-interval-clause-piece : goal.returns-else-interval-clause-piece
returns-else-interval-clause-piece c =
    let w = c.args.self.now in
    let a = c.in-Err.above in
    named_split c.args.table.now.table.now.block.now (parts_of c.args.table.now) w.targets.items c.args.table.now.bytes.0.items c.widest-place.result.0
    a.bound a.place c.widest-place.result.1 c.requires.table.box_is.intervals
    (subst (λ (ts : List ℕ). IsFirstAbove Named c.args.table.now.table.now.block.now (parts_of c.args.table.now) ts c.args.table.now.bytes.0.items a.place a.bound)
    c.as_slice.ensures.value c.in-Err.ensures.above) c.widest-place.ensures c.if-interval.false
