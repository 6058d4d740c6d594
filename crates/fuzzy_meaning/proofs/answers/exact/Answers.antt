use Rattle.std.proofs.Common.{◌≡◌, ◌-◌, get_or, [], refl, sym, subst, arith}
use Rattle.fz_num.specs.Fractions.{IsValueOf}
use Rattle.fuzzy_meaning.specs.Holding.{shares_of}
use Rattle.fuzzy_meaning.proofs.BlockLemmas.{output_at-read}
use Rattle.fuzzy_meaning.proofs.ShareLemmas.{answer_after-held, answer_after-massless, heavy_terms-massless}
use Rattle.fuzzy_meaning.proofs.answers.exact.Goals as goal

pub returns-in-Some-clause-answer : goal.returns-in-Some-clause-answer
returns-in-Some-clause-answer c before is_before =
    let b = c.args.block.now in
    let x = c.index-as_slice-out.result in
    let is : x ≡ get_or b.outputs (c.args.out - 1) x = cc in
    let found = output_at-read b c.args.out x c.requires.out_from c.requires.out_to is in
    let some : shares_of c.in_ok-held.held ≡ [] → ⊥ = λ e. (let gone = c.in-Some.ensures.none.1 e in cc) in
    answer_after-held b c.args.out before c.args.xs.now x c.in_ok-held.held c.in-Some.answer found
    c.in_ok-held.ensures.sums c.in_ok-held.ensures.small some c.in-Some.ensures.num c.in-Some.ensures.den

pub returns-in-None-clause-none : goal.returns-in-None-clause-none
returns-in-None-clause-none c =
    let b = c.args.block.now in
    let x = c.index-as_slice-out.result in
    let is : x ≡ get_or b.outputs (c.args.out - 1) x = cc in
    let found = output_at-read b c.args.out x c.requires.out_from c.requires.out_to is in
    let few = heavy_terms-massless b c.args.out c.args.xs.now x c.in_ok-held.held found
    c.in_ok-held.ensures.terms (c.in-None.ensures.none.0 refl) in
    (λ e. absurd (let z : ⊥ = cc in z), λ many. absurd (omega (arith, few, many)))

pub returns-in-None-clause-answer : goal.returns-in-None-clause-answer
returns-in-None-clause-answer c before is_before =
    let b = c.args.block.now in
    let x = c.index-as_slice-out.result in
    let is : x ≡ get_or b.outputs (c.args.out - 1) x = cc in
    let found = output_at-read b c.args.out x c.requires.out_from c.requires.out_to is in
    let rests = answer_after-massless b c.args.out before c.args.xs.now x c.in_ok-held.held found
    c.in_ok-held.ensures.sums (c.in-None.ensures.none.0 refl) in
    subst (λ a. IsValueOf a c.resting.result) (sym rests) (c.resting.ensures before is_before)
