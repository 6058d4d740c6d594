use Rattle.eval_code.proofs.Words.{◌∙◌, ◌≡◌, ap, arith, revw_bound, instruction_of, input_term_count, instruction_bound}
use Rattle.eval_code.proofs.Words.{length, output_bound, output_term_count, singleton_count, slots_of, sum_by}
use Rattle.eval_code.proofs.Words.{term_count}
use Rattle.eval_code.proofs.bounds.instruction_bound.Goals as goal

pub returns-clause-value : goal.returns-clause-value
unfolding instruction_bound
returns-clause-value c =
    let laid = c.args.laid_out.now in
    let b = laid.block.now in
    let flat = laid.flat in
    let has = c.flat_has_parts.ensures flat b laid.flat_is in
    let w = c.args.width in
    let terms : c.input_terms-terms.result ≡ input_term_count b = c.input_terms-terms.ensures.value
    ∙ ap (λ xs. sum_by term_count xs) c.as_slice.ensures in
    let singletons : c.output_terms.result ≡ output_term_count b = c.output_terms.ensures.value
    ∙ ap (λ xs. sum_by singleton_count xs) c.as_slice-2.ensures in
    let outputs : c.output_bounds.result ≡ sum_by (output_bound w) b.outputs = c.output_bounds.ensures.value
    ∙ ap (λ xs. sum_by (output_bound w) xs) c.as_slice-3.ensures in
    let slots : length flat.slots ≡ length (slots_of b) = ap (λ xs. length xs) has.slots in
    let instruction : c.revw_bound.result ≡ revw_bound (instruction_of b) = c.revw_bound.ensures.value
    ∙ ap revw_bound has.instruction in
    omega arith
