-- The truth of conjunctions, and what spreading keeps.
-- Beside the promise.
use Rattle.std.specs.Prelude.{◌≡◌, ℕ, ◌-◌, ◌≤◌, min, max, false, List, [], ◌∷◌, map, flat_map, get_or, if◌then◌else◌}
use Rattle.fuzzy_meaning.specs.declared.{block.Block.Block, block.Rule.Rule}
use Rattle.fuzzy_meaning.specs.{Blocks.IsValid, Conditions.Condition, Conditions.level}
use Rattle.rule_layout.specs.declared.{flat.Slot.Slot, flat.Conjunction.Conjunction, flat.Flat.Flat}
use Rattle.rule_layout.specs.declared.flat.Slot.TheVariants.{Term, Complement, Out}
use Rattle.rule_layout.specs.{Layouts.flat_of, Layouts.rule_conjunctions, Spreading.Literal, Spreading.spread_of}

-- a literal's value where each input term has one from 0 to n
abbrev pub literal_value : ℕ → (ℕ → ℕ → ℕ) → Literal → ℕ
literal_value n v l = if l.complement then n - v l.input l.term else v l.input l.term

-- the least of a conjunction's literals
abbrev pub least_literal : ℕ → (ℕ → ℕ → ℕ) → List Literal → ℕ
least_literal n v [] = n
least_literal n v (l ∷ ls) = min (literal_value n v l) (least_literal n v ls)

-- the greatest of the conjunctions
abbrev pub greatest_conjunction : ℕ → (ℕ → ℕ → ℕ) → List (List Literal) → ℕ
greatest_conjunction n v [] = 0
greatest_conjunction n v (c ∷ cs) = max (least_literal n v c) (greatest_conjunction n v cs)

-- the greatest of the conjunctions that a condition spreads into is its truth
abbrev pub SpreadingLaw : Type 0
SpreadingLaw =
    (n : ℕ) (v : ℕ → ℕ → ℕ) (c : Condition) → 1 ≤ n → ((i t : ℕ) → v i t ≤ n)
    → greatest_conjunction n v (spread_of false c) ≡ level n v c

-- what a slot holds before the rules, where each input term has a value from 0 to n
abbrev pub slot_value : ℕ → (ℕ → ℕ → ℕ) → Slot → ℕ
slot_value n v (Term i t) = v i t
slot_value n v (Complement i t) = n - v i t
slot_value n v (Out o t) = 0

abbrev pub slot_values : ℕ → (ℕ → ℕ → ℕ) → List Slot → List ℕ
slot_values n v ss = map (slot_value n v) ss

-- the least value of the slots with these numbers
abbrev pub least_value : ℕ → List ℕ → List ℕ → ℕ
least_value n values [] = n
least_value n values (k ∷ ks) = min (get_or values k 0) (least_value n values ks)

-- the greatest of conjunctions by the numbers of the slots
abbrev pub greatest_value : ℕ → List ℕ → List Conjunction → ℕ
greatest_value n values [] = 0
greatest_value n values (c ∷ cs) = max (least_value n values c.literals) (greatest_value n values cs)

-- the greatest of the conjunctions that a layout has for a rule
abbrev pub rule_value : ℕ → (ℕ → ℕ → ℕ) → Flat → Rule → ℕ
rule_value n v flat r = greatest_value n (slot_values n v flat.slots) (rule_conjunctions flat.slots r)

-- the layout has the conjunctions of one rule after another, and the greatest of a rule's is its condition's truth
pub record KeepsTruths (n : ℕ) (v : ℕ → ℕ → ℕ) (rules : List Rule) (flat : Flat) : Type 0 where
  pub conjunctions : flat.conjunctions ≡ flat_map (rule_conjunctions flat.slots) rules
  pub truths : map (rule_value n v flat) rules ≡ map (λ r. level n v r.cond) rules

-- the layout of a valid block keeps the truths of its rules
abbrev pub RuleTruthLaw : Type 0
RuleTruthLaw =
    (b : Block) (n : ℕ) (v : ℕ → ℕ → ℕ) → IsValid b → 1 ≤ n → ((i t : ℕ) → v i t ≤ n)
    → KeepsTruths n v b.rules (flat_of b)
