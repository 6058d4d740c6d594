use Rattle.cert_check.specs.Faults.{bad_rule, fails}
use Rattle.cert_check.proofs.leaves.pair_bound.Goals as goal

pub returns-then-not-is_pair_for-clause-fault : goal.returns-then-not-is_pair_for-clause-fault
returns-then-not-is_pair_for-clause-fault c = bad_rule
    (λ p. let t = c.is_pair_for.ensures.1 p in let f = c.if-not-is_pair_for.true in absurd (let z : ⊥ = cc in z))

pub returns-in-Err-clause-fault : goal.returns-in-Err-clause-fault
returns-in-Err-clause-fault c =
    fails c.in-Err.fault (c.is_pair_for.ensures.0 c.if-not-is_pair_for.false) c.in-Err.ensures.fault
