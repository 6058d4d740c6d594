-- What the slots hold before the rules and after them.
-- Beside the promise.
use Rattle.std.specs.Prelude.{◌≡◌, ℕ, ◌^◌, ◌<◌, min, max, List, [], ◌∷◌, map, length, drop, All, slice_index, slice_set}
use Rattle.fuzzy_meaning.specs.{declared.block.Block.Block, Blocks.IsValid}
use Rattle.point_slope.specs.Bytes.{literal_grade, byte_mass}
use Rattle.rule_layout.specs.declared.{flat.Slot.Slot, flat.Conjunction.Conjunction}
use Rattle.rule_layout.specs.{Slots.slots_of, Slots.output_terms, Layouts.conjunctions_of, Layouts.weights_of}
use Rattle.rule_layout.specs.Truths.{slot_value}
use Rattle.cpu12_parts.specs.Parts.{weighted}
use Rattle.eval_code.specs.Code.{input_slots}

-- a byte for each input
pub record AreInputBytes (b : Block) (bytes : List ℕ) : Type 0 where
  pub count : length bytes ≡ length b.inputs
  pub fit : All (λ v. v < 2 ^ 8) bytes

-- what a slot holds before the rules: a term's its grade, a complement's 255 minus that, an output's term's 0
abbrev pub slot_before : Block → List ℕ → Slot → ℕ
slot_before b bytes = slot_value 255 (literal_grade b bytes)

abbrev pub slots_before : Block → List ℕ → List ℕ
slots_before b bytes = map (slot_before b bytes) (slots_of b)

-- the least of t and the values of these slots
abbrev pub least_of : List ℕ → ℕ → List ℕ → ℕ
least_of values t [] = t
least_of values t (k ∷ ks) = least_of values (min t (slice_index values k)) ks

-- these slots raised to t
abbrev pub raised_to : ℕ → List ℕ → List ℕ → List ℕ
raised_to t values [] = values
raised_to t values (k ∷ ks) = raised_to t (slice_set values k (max (slice_index values k) t)) ks

-- the slots after conjunctions with their weights, one after another
abbrev pub fired : List ℕ → List Conjunction → List ℕ → List ℕ
fired values [] ws = values
fired values (c ∷ cs) [] = values
fired values (c ∷ cs) (w ∷ ws) =
    let t = weighted (least_of values 255 c.literals) w in
    fired (raised_to t values c.conclusions) cs ws

abbrev pub slots_after : Block → List ℕ → List ℕ
slots_after b bytes = fired (slots_before b bytes) (conjunctions_of b) (weights_of b)

-- The rules leave in the slots of the outputs' terms their masses.
abbrev pub RulesGiveMasses : Type 0
RulesGiveMasses = (b : Block) (bytes : List ℕ) → IsValid b → AreInputBytes b bytes
    → drop (input_slots (slots_of b) b.outputs) (slots_after b bytes)
    ≡ map (λ p. byte_mass b bytes p.0 p.1) (output_terms b)
