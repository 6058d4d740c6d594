-- Where the slots of a term stand.
-- Beside the promise.
use Rattle.std.specs.Prelude.{◌≡◌, ℕ, ◌+◌, ◌-◌, List, length, take, filter, sum_by}
use Rattle.fuzzy_meaning.specs.{declared.block.Block.Block, Blocks.IsValid, Blocks.HasTerm, Blocks.HasSingleton}
use Rattle.rule_layout.specs.declared.flat.Slot.TheVariants.{Term, Out}
use Rattle.rule_layout.specs.Slots.{term_count, singleton_count, input_terms, is_complemented, slots_of, number_in}

-- the input terms whose complements some rule uses
abbrev pub complemented_terms : Block → List (ℕ × ℕ)
complemented_terms b = filter (λ p. is_complemented b.rules p.0 p.1) (input_terms b)

-- before an input's term stand all terms of the inputs before it, and the terms before it
abbrev pub TermNumberLaw : Type 0
TermNumberLaw = (b : Block) (i t : ℕ) → IsValid b → HasTerm b i t →
    number_in (slots_of b) (Term i t) ≡ sum_by term_count (take (i - 1) b.inputs) + (t - 1)

-- before an output's term stand all input terms, the complements, and the output terms before it
abbrev pub OutNumberLaw : Type 0
OutNumberLaw = (b : Block) (o t : ℕ) → IsValid b → HasSingleton b o t →
    number_in (slots_of b) (Out o t)
    ≡ length (input_terms b) + length (complemented_terms b)
    + (sum_by singleton_count (take (o - 1) b.outputs) + (t - 1))
