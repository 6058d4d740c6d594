use Rattle.eval_code.proofs.Words.{◌++◌, ◌∙◌, ap, eval_code, map, Op}
use Rattle.eval_code.proofs.Joins.{eval_code_over-flat, three_pieces, weights-flat, rules-flat, block_items-parts}
use Rattle.eval_code.proofs.items.push_block.Goals as goal

pub returns : goal.returns
returns c =
    let l = c.args.memory_map.now in
    let laid = c.args.laid_out.now in
    let b = laid.block.now in
    let w = c.args.width in
    let around = c.args.around.now in
    let flat = laid.flat in
    let has = c.flat_has_parts.ensures flat b laid.flat_is in
    let eval = eval_code_over-flat l b w flat _ _ _ has c.as_slice.ensures c.as_slice-2.ensures
    c.as_slice-3.ensures in
    let code = three_pieces _ _ _ _ around.before.now (eval_code l b w) around.behind.now
    c.in_ok-push_code.ensures
    (c.in_ok-push_eval.ensures ∙ ap (λ code. c.push_code.new.items.items ++ map Op code) eval)
    c.in_ok-push_code-2.ensures in
    block_items-parts l b w around.before.now around.behind.now _ _ _ _ _ _ _ _ _ _ _
    (c.deref.ensures.value ∙ c.in_ok-table_bytes.ensures)
    (c.deref-2.ensures.value ∙ c.in_ok-singleton_bytes.ensures)
    (c.weight_bytes.ensures ∙ weights-flat b flat has)
    (c.deref-3.ensures.value ∙ c.in_ok-rule_bytes.ensures ∙ rules-flat l.slots b flat has)
    c.in_ok-push.ensures.items
    code
    c.in_ok-push_bytes_at.ensures
    c.in_ok-push_bytes_at-2.ensures
    c.in_ok-push_bytes_at-3.ensures
    c.in_ok-push_bytes_at-4.ensures
