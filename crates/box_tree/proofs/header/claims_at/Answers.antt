use Rattle.std.proofs.Common.{arith, ap, length}
use Rattle.box_tree.proofs.{HeaderLemmas.one_claims, Emptiness.is_nothing}
use Rattle.box_tree.proofs.header.claims_at.Goals as goal
use Rattle.box_tree.proofs.header.claims_at.Goals.{then-is_empty-via-then-is_empty}
use Rattle.box_tree.proofs.header.claims_at.Goals.{then-is_empty-via-else-is_empty+then-len-gt-MOST_CLAIMS}

pub returns-then-is_empty-clause-claims : goal.returns-then-is_empty-clause-claims
returns-then-is_empty-clause-claims c = λ claims behind are same.
    let nothing = is_nothing c.in_ok-numbers.numbers.items in
    let one = one_claims c.args.text.now c.in_ok-numbers.numbers.items c.in_ok-numbers.rest.now claims behind
    c.in_ok-numbers.ensures.2 c.in_ok-numbers.ensures.1 are same in
    elim c.then-is_empty.branch [
      | then-is_empty-via-then-is_empty w ↦ absurd
          (omega (arith, ap length one.0, ap length (nothing w.if-is_empty.ensures), are.some))
      | then-is_empty-via-else-is_empty+then-len-gt-MOST_CLAIMS w ↦ absurd
          (omega (arith, ap length one.0, are.few, w.len.ensures))
    ]
