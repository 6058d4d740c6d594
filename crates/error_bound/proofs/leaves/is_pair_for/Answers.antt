use Rattle.std.proofs.Common.{◌≡◌, ◌-◌, ◌≤◌, length, Some, refl, subst, arith}
use Rattle.std.proofs.lemmas.Option.{slice_get_read}
use Rattle.std.specs.Prelude.{slice_get}
use Rattle.error_bound.proofs.LeafLemmas.{pair_named, pair_unnamed}
use Rattle.error_bound.proofs.leaves.is_pair_for.Goals as goal

pub returns-in-Some : goal.returns-in-Some
returns-in-Some c =
    let l = c.in-Some.ensures.lookup in
    let r = c.in-Some.rule.now in
    let rules = c.as_slice.result.now in
    let place = c.args.leaf.now.rule - 1 in
    let e = subst (λ rules. slice_get rules place ≡ Some r) c.as_slice.ensures
    (slice_get_read rules (length rules) place r refl l.3.0 (l.3.1 r)) in
    pair_named c.args.block.now c.args.out c.args.leaf.now c.if-leaf-eq0.false c.if-leaf-eq0-2.false
    (omega arith) r c.concludes_some.result e c.concludes_some.ensures

pub returns-in-None : goal.returns-in-None
returns-in-None c =
    let l = c.in-None.ensures.lookup in
    let past = subst (λ rules. length rules ≤ c.args.leaf.now.rule - 1) c.as_slice.ensures l.3 in (
      (λ z. absurd (let w : ⊥ = cc in w)),
      λ p. absurd (pair_unnamed c.args.block.now c.args.out c.args.leaf.now c.if-leaf-eq0.false c.if-leaf-eq0-2.false
          (omega arith) past p),
    )
