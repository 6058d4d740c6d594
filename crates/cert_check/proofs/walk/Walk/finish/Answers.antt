use Rattle.std.proofs.Common.{refl}
use Rattle.cert_check.proofs.WalkLemmas.{as_behind, last_fault, accepted_behind, claim_fault}
use Rattle.cert_check.proofs.walk.Walk.finish.Goals as goal

pub returns-in-Some-clause-fault : goal.returns-in-Some-clause-fault
returns-in-Some-clause-fault c = λ nodes taken tree. last_fault c.args.self nodes c.in-Some.fault c.in-Some.is taken

pub returns-in-Some-first_over-clause-fault : goal.returns-in-Some-first_over-clause-fault
returns-in-Some-first_over-clause-fault c = λ nodes taken tree.
    let w = c.args.self in
    claim_fault w nodes c.as_slice.result.now c.in-Some-first_over.o _ c.index.result.now c.as_slice.ensures.value
    tree c.in-Some-first_over.ensures.over
    refl c.index.ensures (as_behind w nodes c.in_default.is taken)

pub returns-in-None-clause-accepted : goal.returns-in-None-clause-accepted
returns-in-None-clause-accepted c = λ nodes taken tree.
    let w = c.args.self in
    accepted_behind w nodes c.as_slice.result.now c.as_slice.ensures.value tree c.in-None.ensures.none
    (as_behind w nodes c.in_default.is taken)
