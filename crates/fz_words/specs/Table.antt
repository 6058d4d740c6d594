-- Tables of commands, and which row words are of.
-- Beside the promise.
use Rattle.std.specs.Prelude.{◌==◌, ℕ, Bool, false, List, [], ◌∷◌, length, drop, find, map, option_and_then}
use Rattle.std.specs.Prelude.{option_map, if◌then◌else◌, Option, Some, None}
use Rattle.std.specs.Borrow.{Bor}
use Rattle.std.specs.List.{list_any}
use Rattle.std.specs.Str.{bytes_eq}

abbrev pub Text : Type 0
Text = List ℕ

-- a command's name on the command line, how many words follow it, and what the caller calls it
pub record Row (T : Type 0) : Type 0 where
  pub word : Text
  pub count : ℕ
  pub command : T

abbrev pub row : {T : Type 0} → Text → ℕ → T → Row T
row word count command = record { word = word; count = count; command = command }

-- the rows of a table as the code keeps it
abbrev pub rows_of : {T : Type 0} → List (Bor Text × ℕ × T) → List (Row T)
rows_of = map (λ r. row r.0.now r.1 r.2)

abbrev pub row_with : {T : Type 0} → List (Row T) → Text → Option (Row T)
row_with rows w = find (λ r. bytes_eq r.word w) rows

-- the row, where it takes so many words
abbrev pub with_count : {T : Type 0} → ℕ → Row T → Option (Row T)
with_count n r = if r.count == n then Some r else None

-- the program's name, a command's name, and as many words as it takes
abbrev pub row_by_form : {T : Type 0} → List (Row T) → List Text → Option (Row T)
row_by_form rows [] = None
row_by_form rows (p ∷ []) = None
row_by_form rows (p ∷ w ∷ ws) = option_and_then (with_count (length ws)) (row_with rows w)

abbrev pub has_hyphen : Text → Bool
has_hyphen [] = false
has_hyphen (b ∷ bs) = b == 45

-- a word after the program's name begins with a hyphen
abbrev pub any_hyphen : List Text → Bool
any_hyphen words = list_any has_hyphen (drop 1 words)

-- the row that the words are of
abbrev pub row_in : {T : Type 0} → List (Row T) → List Text → Option (Row T)
row_in rows words = if any_hyphen words then None else row_by_form rows words

-- the command that the words name
abbrev pub command_in : {T : Type 0} → List (Row T) → List Text → Option T
command_in rows words = option_map (λ r. r.command) (row_in rows words)
