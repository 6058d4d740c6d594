use Rattle.eval_code.proofs.Words.{[], ◌++◌, ◌+◌, ◌∙◌, ◌∷◌, ◌≡◌, ap, arith, fuzzify_code, input_slots, LdxImmediate}
use Rattle.eval_code.proofs.Words.{LdyImmediate, map, Op, outputs_code, rules_code, slots_code}
use Rattle.eval_code.proofs.Joins.{five_pieces, sum_by-term_count}
use Rattle.eval_code.proofs.items.push_eval.Goals as goal

pub push_slots-requires-clause-few : goal.push_slots-requires-clause-few
push_slots-requires-clause-few c = sum_by-term_count c.args.inputs.now c.requires.few_inputs c.requires.inputs

pub returns : goal.returns
returns c =
    let l = c.args.memory_map.now in
    let inputs = c.args.inputs.now in
    let outputs = c.args.outputs.now in
    let slots = c.args.slots.now in
    let w = c.args.width in
    let first : l.slots + c.saturating_sub.result ≡ l.slots + input_slots slots outputs =
    omega (arith, c.saturating_sub.ensures, c.output_terms.ensures.value) in
    let answers = c.in_ok-push_outputs.ensures
    ∙ ap (λ n. c.push_rules.new.items.items ++ map Op (outputs_code w l.singletons n l.outputs outputs)) first in
    five_pieces _ _ _ _ _ _
    (LdxImmediate l.tables ∷ LdyImmediate l.slots ∷ []) (fuzzify_code l.inputs inputs)
    (slots_code l.slots inputs l.slots slots) (rules_code l c.args.instruction)
    (outputs_code w l.singletons (l.slots + input_slots slots outputs) l.outputs outputs)
    c.in_ok-push_code.ensures c.in_ok-push_fuzzify.ensures c.in_ok-push_slots.ensures c.in_ok-push_rules.ensures answers
