-- The tables by which slots are numbered and complements are marked.
-- Beside the promise.
use Rattle.std.specs.Prelude.{◌≡◌, ℕ, ◌+◌, ◌-◌, ◌*◌, ◌<◌, ◌≤◌, ◌||◌, Bool, false, List, length, get_or, map}
use Rattle.fuzzy_meaning.specs.{declared.block.Rule.Rule, Conditions.Condition}
use Rattle.rule_layout.specs.{declared.flat.Slot.Slot, Grid.IsInGrid, Spreading.Literal}
use Rattle.rule_layout.specs.declared.flat.Slot.TheVariants.{Term, Complement, Out}
use Rattle.rule_layout.specs.Slots.{has_complement, is_complemented, number_in, literal_slot}

-- the slot has a place: 8 inputs, 4 outputs, 15 terms each
abbrev pub IsInTable : Slot → Type 0
IsInTable (Term i t) = IsInGrid i t
IsInTable (Complement i t) = IsInGrid i t
IsInTable (Out o t) = (1 ≤ o) × (o ≤ 4) × (1 ≤ t) × (t ≤ 15)

-- rows of 15: the inputs' terms, their complements, the outputs' terms
abbrev pub place_of : Slot → ℕ
place_of (Term i t) = (i - 1) * 15 + (t - 1)
place_of (Complement i t) = (i + 7) * 15 + (t - 1)
place_of (Out o t) = (o + 15) * 15 + (t - 1)

abbrev pub table_number : List ℕ → Slot → ℕ
table_number table s = get_or table (place_of s) 0

-- the table has the number of each slot of the list
pub record IsNumbering (ss : List Slot) (table : List ℕ) : Type 0 where
  pub numbers : (s : Slot) → IsInTable s → number_in ss s < length ss → table_number table s ≡ number_in ss s

abbrev pub is_marked : List Bool → ℕ → ℕ → Bool
is_marked table i t = get_or table (place_of (Complement i t)) false

-- the new marks are the old ones and those of a condition
pub record AreAdded (odd : Bool) (c : Condition) (old new : List Bool) : Type 0 where
  pub marks : (i t : ℕ) → IsInGrid i t → is_marked new i t ≡ (is_marked old i t || has_complement i t odd c)

-- the marks are those of the rules' conditions
pub record AreUsed (rules : List Rule) (table : List Bool) : Type 0 where
  pub marks : (i t : ℕ) → IsInGrid i t → is_marked table i t ≡ is_complemented rules i t

-- a literal's number in the table
abbrev pub table_literal : List ℕ → Literal → ℕ
table_literal table l = table_number table (literal_slot l)

abbrev pub table_literals : List ℕ → List (List Literal) → List (List ℕ)
table_literals table cs = map (map (table_literal table)) cs
