use Rattle.std.proofs.Common.{arith}
use Rattle.cert_check.proofs.WalkLemmas.{none_from_is_some, as_behind, few_lines_taken}
use Rattle.cert_check.proofs.walk.Walk.take.Goals as goal

pub overflow_add-self : goal.overflow_add-self
overflow_add-self c =
    let w = c.args.self.now in
    let nodes = c.requires.0 in
    let behind = as_behind w nodes (none_from_is_some w.fault c.if-is_some.ensures) c.requires.1 in
    let few = few_lines_taken w nodes c.args.node.now behind c.requires.2 in
    omega (arith, few, c.in-Ok.ensures.line)
