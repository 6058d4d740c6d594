-- What the rule list leaves in the slots of the output terms.
-- Beside the promise.
use Rattle.std.specs.Prelude.{◌≡◌, ℕ, ◌+◌, ◌*◌, ◌/◌, max, ◌==◌, Bool, List, [], ◌∷◌}
use Rattle.std.specs.Prelude.{if◌then◌else◌}
use Rattle.std.specs.List.{list_any}
use Rattle.fuzzy_meaning.specs.{declared.block.Block.Block, Blocks.IsValid, Blocks.HasSingleton}
use Rattle.point_slope.specs.Bytes.{literal_grade, byte_mass}
use Rattle.rule_layout.specs.declared.{flat.Slot.Slot, flat.Conjunction.Conjunction}
use Rattle.rule_layout.specs.{Slots.slots_of, Slots.conclusion_number, Layouts.flat_of}
use Rattle.rule_layout.specs.Truths.{slot_values, least_value}

-- what the slots hold before the rules, by the grades of the input terms
abbrev pub slot_bytes : (ℕ → ℕ → ℕ) → List Slot → List ℕ
slot_bytes g ss = slot_values 255 g ss

-- the least byte of the slots with these numbers
abbrev pub least_byte : List ℕ → List ℕ → ℕ
least_byte bytes ns = least_value 255 bytes ns

abbrev pub scaled : ℕ → ℕ → ℕ
scaled w t = t * (w + 1) / 256

abbrev pub raises : Conjunction → ℕ → Bool
raises c n = list_any (λ e. e == n) c.conclusions

-- what a slot of 0 comes to: the greatest, over the conjunctions that conclude it, of the least
-- literal scaled by the weight byte
abbrev pub left_in : List ℕ → List ℕ → List Conjunction → ℕ → ℕ
left_in bytes ws [] n = 0
left_in bytes [] (c ∷ cs) n = 0
left_in bytes (w ∷ ws) (c ∷ cs) n =
    max (if raises c n then scaled w (least_byte bytes c.literals) else 0) (left_in bytes ws cs n)

-- the list of a valid block leaves in the slot of an output's term its mass
abbrev pub MassLaw : Type 0
MassLaw = (b : Block) (bytes : List ℕ) (o t : ℕ) → IsValid b → HasSingleton b o t →
    left_in (slot_bytes (literal_grade b bytes) (slots_of b)) ((flat_of b).weights) ((flat_of b).conjunctions)
    (conclusion_number (slots_of b) (o, t)) ≡ byte_mass b bytes o t
