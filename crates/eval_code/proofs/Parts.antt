-- Each part of a block's data has a byte, and so many at most.
use Rattle.eval_code.proofs.Words.{[], ◌∷◌, ◌≤◌, All, arith, Conjunction, conjunctions_of, entry_count, Input}
use Rattle.eval_code.proofs.Words.{IsValidInput, IsValidOutput, LayoutLaw, length, List, Output, singleton_count}
use Rattle.eval_code.proofs.Words.{sum_by, sum_by-cons, term_count}
use Rattle.eval_code.specs.{Placed.BlockHasParts}
use Rattle.byte_scaling.specs.declared.width.Width.TheVariants.{Byte}
use Rattle.eval_code.proofs.{Sizes.length-tables, Sizes.length-singletons, Placed.parts, phases.RuleFacts.block_facts}
use Rattle.eval_code.proofs.Placement.{length-weights_of, length-rules, element_count-le}

-- each part has a byte
some_terms : (xs : List Input) → 1 ≤ length xs → All IsValidInput xs → 1 ≤ sum_by term_count xs
some_terms [] some v = absurd (omega arith)
some_terms (x ∷ xs) some v = let first = (v 0 x (omega arith)).some_term in omega (arith, sum_by-cons term_count x xs)

some_singletons : (os : List Output) → 1 ≤ length os → All IsValidOutput os → 1 ≤ sum_by singleton_count os
some_singletons [] some v = absurd (omega arith)
some_singletons (o ∷ os) some v = let first = (v 0 o (omega arith)).some_term in
    omega (arith, sum_by-cons singleton_count o os)

some_entries : (cs : List Conjunction) → 1 ≤ length cs → 1 ≤ sum_by entry_count cs
some_entries [] some = absurd (omega arith)
some_entries (c ∷ cs) some = omega (arith, sum_by-cons entry_count c cs)

pub has_parts : LayoutLaw → BlockHasParts
has_parts law l b v limits =
    let h = parts law l b Byte [] [] v limits in
    let facts = block_facts law b v in
    let conjunctions = facts.some_conjunction in
    let terms = some_terms b.inputs v.some_input v.inputs in
    let singletons = some_singletons b.outputs v.some_output v.outputs in
    let entries = some_entries (conjunctions_of b) conjunctions in
    record {
      tables = (omega (arith, length-tables b.inputs, terms), h.tables);
      singletons = (omega (arith, length-singletons b.outputs, singletons), h.singletons);
      weights = (
        omega (arith, facts.weighed, conjunctions),
        omega (arith, length-weights_of b, limits.few_conjunctions),
      );
      rules = (omega (arith, length-rules l.slots b, element_count-le b, entries), h.rules);
    }
