use Rattle.std.proofs.Common.{arith, ◌≡◌, ◌∙◌, ℕ, List, [], ◌∷◌, ap, get_or, length, subst, sym}
use Rattle.std.proofs.lemmas.List.Elements.{All-head}
use Rattle.fcl_check.specs.Texts.{SpellsBlock}
use Rattle.fuzzy_meaning.specs.{Blocks.IsValidInput, declared.block.Block.Block, declared.block.Input.Input}
use Rattle.trace_io.specs.Traces.{Spells}
use Rattle.workload.specs.{Blocks.drawn_block, Blocks.drawn_input, Draws.state_after, Texts.fcl_text}
use Rattle.workload.proofs.DrawLemmas.{state_after_none}
use Rattle.workload.proofs.workload.workload_of.Goals as goal

pub drawn_trace-requires-clause-valid : goal.drawn_trace-requires-clause-valid
drawn_trace-requires-clause-valid c =
    let law = c.drawn_texts_spell_blocks.ensures c.shift-shift.result c.shift-shift.ensures.small in
    let input = c.index-as_slice-0.result in
    let same : input ≡ drawn_input =
    c.index-as_slice-0.is ∙ ap (λ (l : List Input). get_or l 0 input)
    (c.as_slice.ensures ∙ ap (λ (b : Block). b.inputs) c.in_ok-block.ensures) in
    subst IsValidInput (sym same) (All-head IsValidInput drawn_input (drawn_input ∷ []) law.0.valid.inputs)

pub returns-clause-workload : goal.returns-clause-workload
returns-clause-workload c =
    let number = c.args.number in
    let begun : c.of-draws.result.state ≡ state_after number 0 = c.of-draws.ensures ∙ state_after_none number in
    let behind = c.shift-shift.ensures.state number 0 begun in
    let traced = c.in_ok-trace.ensures.state number behind in
    let shift = c.shift-shift.result in
    let law = c.drawn_texts_spell_blocks.ensures shift c.shift-shift.ensures.small in
    let block = c.in_ok-block.ensures in
    record {
      spelled = subst (λ (text : List ℕ). SpellsBlock text c.in_ok-block.block) (sym c.in_ok-text.ensures)
          (subst (λ (b : Block). SpellsBlock (fcl_text shift) b) (sym block) law.0);
      block_is = block ∙ ap drawn_block (c.shift-shift.ensures.value number 0 begun);
      in_trace = subst (λ (inputs : List Input). Spells inputs c.in_ok-trace.field-0.text.items
          c.in_ok-trace.field-0.samples.items)
          (sym (ap (λ (b : Block). b.inputs) block)) c.in_ok-trace.ensures.spelled;
      drawn_samples = c.in_ok-trace.ensures.drawn number behind;
      in_plan = c.in_ok-plan.ensures.spelled number traced;
      drawn_requests = c.in_ok-plan.ensures.drawn number traced;
    }

pub returns-clause-short_text : goal.returns-clause-short_text
returns-clause-short_text c =
    let law = c.drawn_texts_spell_blocks.ensures c.shift-shift.result c.shift-shift.ensures.small in
    omega (arith, law.1, ap length c.in_ok-text.ensures)
