-- Conditions whose literals stand in a grid of 8 inputs by 15 terms.
-- Beside the promise.
use Rattle.std.specs.Prelude.{ℕ, ◌≤◌}
use Rattle.fuzzy_meaning.specs.Conditions.{Condition, Conditions, HasLiterals, AllHaveLiterals}

-- input i and term t, both from 1
pub record IsInGrid (i t : ℕ) : Type 0 where
  pub input_from : 1 ≤ i
  pub input_to : i ≤ 8
  pub term_from : 1 ≤ t
  pub term_to : t ≤ 15

-- each literal is in the grid, and no list is empty
abbrev pub FitsGrid : Condition → Type 0
FitsGrid = HasLiterals IsInGrid

abbrev pub AllFitGrid : Conditions → Type 0
AllFitGrid = AllHaveLiterals IsInGrid
