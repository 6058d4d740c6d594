use Rattle.std.proofs.Common.{ap, ◌∙◌}
use Rattle.box_tree.specs.Reading.{claims_of}
use Rattle.box_tree.proofs.ReadLemmas.{made_cert}
use Rattle.box_tree.proofs.reader.cert_behind.Goals as goal

pub loop-node-preserved : goal.loop-node-preserved
loop-node-preserved c = λ format text h.
    let read = rw c.in-Ok-Some.field-0-is at
    (c.in-Ok-Some.ensures.node format text c.loop-node.nodes.items (c.loop-node.invariant format text h)) in
    rw c.in-Ok.ensures.items read

pub returns-in-Ok-None-clause-cert : goal.returns-in-Ok-None-clause-cert
returns-in-Ok-None-clause-cert c = λ format text h.
    let spelled = rw c.in-Ok-None.field-0-is at
    (c.in-Ok-None.ensures.node format text c.loop-node.nodes.items (c.loop-node.invariant format text h)) in
    made_cert format text c.claims.result.items (claims_of c.loop-node.lines) c.loop-node.nodes.items
    c.cert_of.result spelled.0 (c.claims.ensures ∙ ap claims_of spelled.1) c.cert_of.ensures.cert

pub returns-in-Err-clause-fault : goal.returns-in-Err-clause-fault
returns-in-Err-clause-fault c =
    λ format text h want.
    (c.in-Err.ensures.fault format text c.loop-node.nodes.items (c.loop-node.invariant format text h)).0
