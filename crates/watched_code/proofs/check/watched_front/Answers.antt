use Rattle.watched_code.proofs.Words.{◌∙◌, ap, arith, code_length}
use Rattle.watched_code.proofs.watching.Fronts.{length-le, short_bad}
use Rattle.watched_code.proofs.check.watched_front.Goals as goal

pub code_length-requires-2 : goal.code_length-requires-2
code_length-requires-2 c =
    let same = c.deref-2.ensures.value ∙ c.in_ok-bad.ensures in
    let short = short_bad _ c.args.memory_map.now c.args.outputs.now same c.requires.few in
    omega (arith, short, length-le c.deref-2.result.now)

pub overflow_add-bad_at-2 : goal.overflow_add-bad_at-2
overflow_add-bad_at-2 c =
    let same = c.deref-2.ensures.value ∙ c.in_ok-bad.ensures in
    let short = short_bad _ c.args.memory_map.now c.args.outputs.now same c.requires.few in
    let frame = c.code_length.ensures ∙ ap code_length c.frame_code.ensures in
    let room = c.requires.room.0 in
    omega (arith, c.code_length-2.ensures, short, frame)
