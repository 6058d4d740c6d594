use Rattle.watched_code.proofs.Words.{◌+◌, ◌∙◌, ◌≡◌, ◌≤◌, All, ap, AreSegments, arith, code_length, length, List}
use Rattle.watched_code.proofs.Words.{main_map, MemoryMap, refl, Segment, steps_by, subst, sym, watched_front, ℕ}
use Rattle.std.proofs.{Common.rules}
use Rattle.watched_code.proofs.watching.Emitting.{bound_made, front_made, are_short}
use Rattle.watched_code.proofs.watching.Tables.{are_segments}
use Rattle.watched_code.proofs.watch.compile_scrub_laid_out.Goals as goal

pub watched_front-requires-clause-fit : goal.watched_front-requires-clause-fit
watched_front-requires-clause-fit c =
    let laid = c.args.laid_out.now in
    subst (λ (gs : List Segment). AreSegments gs) (sym (c.deref.ensures.value ∙ c.in_ok-segments.ensures))
    (are_segments laid.block.now (c.blocks_are_placed.ensures.parts main_map laid.block.now laid.valid laid.limits))

pub code_length-requires : goal.code_length-requires
code_length-requires c =
    let laid = c.args.laid_out.now in
    let front = front_made laid.block.now c.deref-2.result.now _ _ laid.valid c.as_slice-outputs.ensures
    (c.deref.ensures.value ∙ c.in_ok-segments.ensures) (c.deref-2.ensures.value ∙ c.in_ok-front.ensures) in
    omega (arith, front.few)

pub overflow_add-memory_map : goal.overflow_add-memory_map
overflow_add-memory_map c =
    let laid = c.args.laid_out.now in
    let front = front_made laid.block.now c.deref-2.result.now _ _ laid.valid c.as_slice-outputs.ensures
    (c.deref.ensures.value ∙ c.in_ok-segments.ensures) (c.deref-2.ensures.value ∙ c.in_ok-front.ensures) in
    omega (arith, c.code_length.ensures, front.short)

pub segment_bounds-requires-clause-short : goal.segment_bounds-requires-clause-short
segment_bounds-requires-clause-short c =
    let laid = c.args.laid_out.now in
    subst (λ (gs : List Segment). All (λ g. length g.bytes ≤ 9984) gs)
    (sym (c.deref-4.ensures.value ∙ c.in_ok-segments.ensures))
    (are_short laid.block.now (c.blocks_are_placed.ensures.parts main_map laid.block.now laid.valid laid.limits))

pub returns-clause-firmware : goal.returns-clause-firmware
returns-clause-firmware c =
    let laid = c.args.laid_out.now in
    let b = laid.block.now in
    let front = front_made b c.deref-2.result.now _ _ laid.valid c.as_slice-outputs.ensures
    (c.deref.ensures.value ∙ c.in_ok-segments.ensures) (c.deref-2.ensures.value ∙ c.in_ok-front.ensures) in
    let size : c.code_length.result ≡ code_length (watched_front main_map b) =
    c.code_length.ensures ∙ ap code_length front.same in
    let bound = bound_made b _ _ _ (c.deref-4.ensures.value ∙ c.in_ok-segments.ensures)
    c.instruction_bound.ensures.value c.segment_bounds.ensures.value in
    record {
      image = c.in_ok-image.ensures;
      memory_map = ap (λ (n : ℕ). let l : MemoryMap = record main_map { eval = 49152 + n } in l) size;
      inputs = search rules;
      outputs = search rules;
      width = refl;
      instructions = bound;
      steps = c.steps_by-step_bound.ensures ∙ ap (steps_by b) bound;
    }

pub returns-clause-answers : goal.returns-clause-answers
returns-clause-answers c =
    let laid = c.args.laid_out.now in
    c.watched_answers.ensures laid.block.now _ laid.valid laid.limits (returns-clause-firmware c)
