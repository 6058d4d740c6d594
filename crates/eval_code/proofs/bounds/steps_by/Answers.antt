use Rattle.eval_code.proofs.Words.{◌∙◌, ◌≡◌, ap, arith, element_count, entry_count, output_term_count}
use Rattle.eval_code.proofs.Words.{singleton_count, steps_by, sum_by}
use Rattle.eval_code.proofs.Placement.{element_count-le}
use Rattle.eval_code.proofs.bounds.steps_by.Goals as goal

pub elements-requires : goal.elements-requires
elements-requires c =
    let laid = c.args.laid_out.now in
    let b = laid.block.now in
    let same = ap (λ cs. sum_by entry_count cs)
    (c.as_slice-2.ensures ∙ (c.flat_has_parts.ensures laid.flat b laid.flat_is).conjunctions) in
    omega (arith, element_count-le b, laid.limits.short_list, same)

pub returns : goal.returns
unfolding steps_by
returns c =
    let laid = c.args.laid_out.now in
    let b = laid.block.now in
    let singletons : c.output_terms.result ≡ output_term_count b = c.output_terms.ensures.value
    ∙ ap (λ xs. sum_by singleton_count xs) c.as_slice.ensures in
    let elements : c.elements.result ≡ element_count b = c.elements.ensures.value
    ∙ ap (λ cs. sum_by entry_count cs)
    (c.as_slice-2.ensures ∙ (c.flat_has_parts.ensures laid.flat b laid.flat_is).conjunctions) in
    omega arith
