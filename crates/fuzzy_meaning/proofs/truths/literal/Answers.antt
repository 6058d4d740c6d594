use Rattle.std.proofs.Common.{◌≡◌, ◌-◌, get_or, refl, sym, ◌∙◌}
use Rattle.fuzzy_meaning.proofs.BlockLemmas.{HasDegree-read}
use Rattle.fuzzy_meaning.proofs.truths.literal.Goals as goal

pub degree-requires-clause-term : goal.degree-requires-clause-term
degree-requires-clause-term c =
    let input = c.index-as_slice-place.result in
    let is : input ≡ get_or c.args.block.now.inputs (c.args.input - 1) input = cc in
    let terms : c.as_slice-terms.result.now ≡ input.terms = cc in
    let has = HasDegree-read _ _ _ c.args.term input _ c.requires.block c.requires.term c.requires.xs is terms in
    has.term_in

pub degree-requires-clause-x : goal.degree-requires-clause-x
degree-requires-clause-x c =
    let input = c.index-as_slice-place.result in
    let is : input ≡ get_or c.args.block.now.inputs (c.args.input - 1) input = cc in
    let has = HasDegree-read _ _ _ c.args.term input _ c.requires.block c.requires.term c.requires.xs is refl in
    has.x_in

pub returns-clause-value : goal.returns-clause-value
returns-clause-value c =
    let input = c.index-as_slice-place.result in
    let is : input ≡ get_or c.args.block.now.inputs (c.args.input - 1) input = cc in
    let terms : c.as_slice-terms.result.now ≡ input.terms = cc in
    let has = HasDegree-read _ _ _ c.args.term input _ c.requires.block c.requires.term c.requires.xs is terms in
    c.degree.ensures.value ∙ sym has.value
