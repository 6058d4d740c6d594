use Rattle.watched_code.proofs.Words.{◌∙◌, arith}
use Rattle.watched_code.proofs.watching.Fronts.{length-le, short_bad, short_both, short_sum}
use Rattle.watched_code.proofs.check.check_code.Goals as goal

pub code_length-requires : goal.code_length-requires
code_length-requires c =
    let short = short_bad _ c.args.memory_map.now c.args.outputs.now c.requires.bad c.requires.few in
    omega (arith, short, length-le c.args.bad.now)

pub code_length-requires-2 : goal.code_length-requires-2
code_length-requires-2 c =
    let same = c.deref.ensures.value ∙ c.in_ok-code.ensures in
    let short = short_sum _ c.args.segments.now same c.requires.few_segments in
    omega (arith, short, length-le c.deref.result.now)

pub overflow_add-back : goal.overflow_add-back
overflow_add-back c =
    let short = short_both _ _ c.args.memory_map.now c.args.outputs.now c.args.segments.now c.requires.bad
    c.requires.few (c.deref.ensures.value ∙ c.in_ok-code.ensures) c.requires.few_segments in
    omega (arith, c.code_length.ensures, c.code_length-2.ensures, short)

pub overflow_add-back-2 : goal.overflow_add-back-2
overflow_add-back-2 c =
    let short = short_both _ _ c.args.memory_map.now c.args.outputs.now c.args.segments.now c.requires.bad
    c.requires.few (c.deref.ensures.value ∙ c.in_ok-code.ensures) c.requires.few_segments in
    omega (arith, c.code_length.ensures, c.code_length-2.ensures, short)

pub overflow_sub-back : goal.overflow_sub-back
overflow_sub-back c =
    let short = short_both _ _ c.args.memory_map.now c.args.outputs.now c.args.segments.now c.requires.bad
    c.requires.few (c.deref.ensures.value ∙ c.in_ok-code.ensures) c.requires.few_segments in
    omega (arith, c.code_length.ensures, c.code_length-2.ensures, short)
