-- A condition spread into conjunctions: the list of them, each the list of its literals.
-- Beside the promise.
use Rattle.std.specs.Prelude.{ℕ, Bool, List, [], ◌∷◌, ◌++◌, map, length, sum_by}
use Rattle.fuzzy_meaning.specs.Conditions.{Condition, Conditions, Joins, joins, evaluate_pushed}
use Rattle.fuzzy_meaning.specs.Conditions.{evaluate_pushed_parts}

-- input i is term t, or its complement
pub record Literal : Type 0 where
  pub complement : Bool
  pub input : ℕ
  pub term : ℕ

abbrev pub literal : Bool → ℕ → ℕ → Literal
literal odd i t = record { complement = odd; input = i; term = t }

-- each list of the first followed by each of the second, the first's changing slowest
abbrev pub choices : {A : Type 0} → List (List A) → List (List A) → List (List A)
choices [] ys = []
choices (x ∷ xs) ys = map (λ y. x ++ y) ys ++ choices xs ys

-- OR is the conjunctions one after another, AND each choice of one conjunction of each part
abbrev pub spreads : {A : Type 0} → Joins (List (List A))
spreads = joins [] (λ xs ys. xs ++ ys) ([] ∷ []) choices

abbrev pub spread_literal : Bool → ℕ → ℕ → List (List Literal)
spread_literal odd i t = (literal odd i t ∷ []) ∷ []

-- `odd`: the condition stands under an odd number of NOTs
abbrev pub spread_of : Bool → Condition → List (List Literal)
spread_of = evaluate_pushed spreads spread_literal

-- the parts of an OR, `any`, or of an AND
abbrev pub spread_parts : Bool → Bool → Conditions → List (List Literal)
spread_parts = evaluate_pushed_parts spreads spread_literal

-- how many items the lists have in all
abbrev pub total_length : {A : Type 0} → List (List A) → ℕ
total_length xs = sum_by (λ x. length x) xs
