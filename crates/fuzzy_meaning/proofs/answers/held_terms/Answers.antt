use Rattle.std.proofs.Common.{◌<◌, length, subst, arith, rules}
use Rattle.std.proofs.lemmas.Int.{ints}
use Rattle.fuzzy_meaning.specs.Meaning.{shares_from, heavy_shares}
use Rattle.fuzzy_meaning.proofs.HeldLemmas.{HoldsFrom-end, HoldsFrom-heavy, HoldsFrom-massless, HasMassBefore-read}
use Rattle.fuzzy_meaning.proofs.HeldLemmas.{IsSmall-term, heavy-third, terms_few}
use Rattle.fuzzy_meaning.proofs.answers.held_terms.Goals as goal

pub loop-k-init : goal.loop-k-init
loop-k-init c = HoldsFrom-end c.args.block.now c.args.xs.now c.args.out c.as_slice-singletons.result.now

pub overflow_cast-k : goal.overflow_cast-k
overflow_cast-k c =
    let small = terms_few c.args.block.now c.args.out c.loop-k.k c.args.output.now _ c.requires.block c.requires.output
    c.as_slice-singletons.ensures c.loop-k.auto.k in
    search rules

pub overflow_add-k : goal.overflow_add-k
overflow_add-k c =
    let small = terms_few c.args.block.now c.args.out c.loop-k.k c.args.output.now _ c.requires.block c.requires.output
    c.as_slice-singletons.ensures c.loop-k.auto.k in
    search rules

pub with-requires-clause-term : goal.with-requires-clause-term
with-requires-clause-term c =
    IsSmall-term c.args.block.now c.args.out c.loop-k.k c.args.output.now _ c.mass.result c.requires.block
    c.requires.output c.as_slice-singletons.ensures c.loop-k-test.true c.loop-k.auto.k c.mass.ensures.truth
    (omega (arith, ints, c.if-term-gt0.true))

pub returns-in_err-held-clause-terms : goal.returns-in_err-held-clause-terms
returns-in_err-held-clause-terms c =
    let has = HasMassBefore-read c.args.block.now c.args.xs.now c.args.out c.as_slice-singletons.result.now c.loop-k.k
    c.mass.result c.loop-k-test.true c.loop-k.auto.k c.mass.ensures.value c.mass.ensures.truth in
    let many = heavy-third _ _ _ _ _ _ has c.loop-k.held c.loop-k.invariant (omega (arith, ints, c.if-term-gt0.true))
    c.in_err-held.ensures.terms in
    rw c.from_residual.ensures
    (subst (λ ds. 2 < length (heavy_shares (shares_from c.args.block.now c.args.xs.now c.args.out 1 ds)))
    c.as_slice-singletons.ensures many)

pub loop-k-preserved-then-term-gt0 : goal.loop-k-preserved-then-term-gt0
loop-k-preserved-then-term-gt0 c =
    let has = HasMassBefore-read c.args.block.now c.args.xs.now c.args.out c.as_slice-singletons.result.now c.loop-k.k
    c.mass.result c.loop-k-test.true c.loop-k.auto.k c.mass.ensures.value c.mass.ensures.truth in
    HoldsFrom-heavy _ _ _ _ _ _ has c.loop-k.held c.in_ok-held.held c.loop-k.invariant
    (omega (arith, ints, c.if-term-gt0.true)) c.in_ok-held.ensures.small c.in_ok-held.ensures.terms

pub loop-k-preserved : goal.loop-k-preserved
loop-k-preserved c =
    let has = HasMassBefore-read c.args.block.now c.args.xs.now c.args.out c.as_slice-singletons.result.now c.loop-k.k
    c.mass.result c.loop-k-test.true c.loop-k.auto.k c.mass.ensures.value c.mass.ensures.truth in
    HoldsFrom-massless _ _ _ _ _ _ has c.loop-k.held c.loop-k.invariant (omega (arith, ints, c.if-term-gt0.false))
